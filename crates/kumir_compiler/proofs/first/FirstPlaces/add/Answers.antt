use Rattle.std.proofs.Common.{◌≡◌, ℕ, List, [], ◌∷◌, ◌++◌, nat_eq, sym, ap, ◌∙◌}
use Rattle.std.specs.Map.{lookup}
use Rattle.std.specs.Cmp.Lexicographic.{pointwise}
use Rattle.kumir_compiler.specs.FirstPlaces.{first_place}
use Rattle.kumir_compiler.proofs.PlacesFound.{name_added, nameless_added, counted}
use Rattle.kumir_compiler.proofs.first.FirstPlaces.add.Goals as goal

pub invariant_of-self-in-Some-name : goal.invariant_of-self-in-Some-name
invariant_of-self-in-Some-name c =
    let seen = c.self.inside.seen in
    let finds : (x : List ℕ) → lookup (pointwise nat_eq x) c.reserve.new.self.entries ≡ first_place x seen = λ y. ap (lookup (pointwise nat_eq y)) ((c.in_ok-reserve.ensures {u = tt}).entries) ∙ c.self.invariant.1 y in (
      counted c.in-Some.count c.self.inside.count c.args.name seen c.note.new.self c.in-Some.ensures.1 c.self.invariant.0 c.note.ensures,
      λ x. name_added c.reserve.new.self.entries c.keep_first.new.places.entries seen c.in-Some-name.name c.self.inside.count finds c.self.invariant.0 c.keep_first.ensures x
          ∙ ap (first_place x) (sym (c.note.ensures ∙ ap (λ y. seen ++ y ∷ []) c.in-Some-name.is)),
    )

pub invariant_of-self-in_default-name : goal.invariant_of-self-in_default-name
invariant_of-self-in_default-name c =
    let seen = c.self.inside.seen in
    let finds : (x : List ℕ) → lookup (pointwise nat_eq x) c.reserve.new.self.entries ≡ first_place x seen = λ y. ap (lookup (pointwise nat_eq y)) ((c.in_ok-reserve.ensures {u = tt}).entries) ∙ c.self.invariant.1 y in (
      counted c.in-Some.count c.self.inside.count c.args.name seen c.note.new.self c.in-Some.ensures.1 c.self.invariant.0 c.note.ensures,
      λ x. nameless_added c.reserve.new.self.entries seen finds x ∙ ap (first_place x) (sym (c.note.ensures ∙ ap (λ y. seen ++ y ∷ []) c.in_default-name.is)),
    )
