-- What is read of a unit, by what its lines say together.
use Rattle.std.proofs.Common.{◌≡◌, ◌≢◌, Bool, true, false, List, [], map, None, sym, ◌∙◌, subst}
use Rattle.kumir_tree.specs.Unit.{Ending, Faulty, Known}
use Rattle.kumir_tree.specs.Sound.{no_performers}
use Rattle.kumir_tree.specs.Parts.{some_head}
use Rattle.algo_parser.specs.declared.gathered.Gathered.{Gathered}
use Rattle.unit_grammar.specs.Structure.{StructureEnds}
use Rattle.algo_parser.specs.Units.{Said, piece_faults, forms_of, Ends, Makes}
use Rattle.unit_grammar.specs.Reading.{placed_of}
use Rattle.algo_parser.specs.Hearing.{IsGathered}

pub forms_left : (g : Gathered) (ss : List Said) (prelude : Bool) → IsGathered g ss → (prelude ≡ false → piece_faults 0 ss ≡ [] → forms_of 0 ss ≢ []) → prelude ≡ false → g.pieces ≡ [] → map placed_of g.forms.items ≢ []
forms_left g ss prelude h some e p none = some e (sym h.pieces ∙ p) (sym h.forms ∙ none)

pub ends_so : (prelude : Bool) (g : Gathered) (ss : List Said) (ending : Ending) → IsGathered g ss
    → (g.lexical ≢ [] → ending ≡ Faulty g.lexical)
    → (g.lexical ≡ [] → g.pieces ≢ [] → ending ≡ Faulty g.pieces)
    → (g.lexical ≡ [] → g.pieces ≡ [] → StructureEnds prelude (map placed_of g.forms.items) ending)
    → Ends prelude ss ending
ends_so prelude g ss ending h lexical pieces structure = record {
  lexical = subst (λ l. l ≢ [] → ending ≡ Faulty l) h.lexical lexical;
  pieces = λ l. subst (λ p. p ≢ [] → ending ≡ Faulty p) h.pieces (pieces (h.lexical ∙ l));
  structure = λ l p. subst (λ f. StructureEnds prelude f ending) h.forms (structure (h.lexical ∙ l) (h.pieces ∙ p));
}

pub makes_prelude : (prelude : Bool) (g : Gathered) (ss : List Said) (k : Known) → prelude ≡ true → IsGathered g ss → Ends prelude ss k.ending
    → k.head ≡ None → k.performers ≡ g.performers → k.unknown ≡ g.unknown → Makes prelude ss k
makes_prelude prelude g ss k e h ends head performers unknown = subst (λ b. Makes b ss k) (sym e) (record {
  header = head;
  performers = performers ∙ h.performers;
  unknown = unknown ∙ h.unknown;
  ending = subst (λ b. Ends b ss k.ending) e ends;
})

pub makes_unit : (prelude : Bool) (g : Gathered) (ss : List Said) (k : Known) → prelude ≡ false → IsGathered g ss → Ends prelude ss k.ending
    → k.head ≡ some_head g.header → k.performers ≡ no_performers → k.unknown ≡ [] → Makes prelude ss k
makes_unit prelude g ss k e h ends head performers unknown = subst (λ b. Makes b ss k) (sym e) (record {
  header = head ∙ h.header;
  performers = performers;
  unknown = unknown;
  ending = subst (λ b. Ends b ss k.ending) e ends;
})
