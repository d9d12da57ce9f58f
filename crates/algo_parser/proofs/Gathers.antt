-- What lines say together, one line more.
use Rattle.std.proofs.Common.{zero, suc, ◌≡◌, ℕ, ◌+◌, ◌<◌, Bool, true, false, ◌||◌, List, [], ◌∷◌, ◌++◌, length, map, Option, Some, None, sym, ◌∙◌, subst, refl, arith, ap, append_assoc, append-nil, ◌⊎◌, inl, inr, ⊎_elim}
use Rattle.std.specs.List.{flat_map}
use Rattle.std.proofs.lemmas.List.{map-append, length-map}
use Rattle.std.proofs.lemmas.List.Concat.{flat_map-append}
use Rattle.std.proofs.lemmas.List.Folds.{list_any-append}
use Rattle.km_base.specs.declared.performers.Performers.{Performers}
use Rattle.performer_kit.specs.Commands.{performer_named}
use Rattle.unit_grammar.specs.Reading.{placed_of}
use Rattle.algo_parser.specs.Hearing.{joined, heard_of, said_of, IsGathered}
use Rattle.kumir_tree.specs.Parts.{some_head}
use Rattle.algo_parser.specs.declared.heard.Said as code_said
use Rattle.algo_parser.specs.declared.gathered.Gathered.{Gathered}
use Rattle.algo_parser.specs.declared.heard.Heard as code
use Rattle.kumir_tree.specs.declared.unit.Fault.{Fault}
use Rattle.std.proofs.Common.{take, get_or, length-append, is_some}
use Rattle.std.proofs.lemmas.List.{take_more}
use Rattle.algo_parser.specs.Units.{Heard, Said, lexical_at, lexical_faults, piece_fault, piece_faults, form_at, forms_of, header_in, header_of, use_in, uses_on, uses_of, performers_of, unknown_of, unknown_at, names_robot, names_pen}

or-false : (b : Bool) → (b || false) ≡ b
or-false true = refl
or-false false = refl

or_assoc : (a b c : Bool) → ((a || b) || c) ≡ (a || (b || c))
or_assoc true b c = refl
or_assoc false b c = refl

-- a list that each line adds to, by its number
module _ {A : Type 0} (F : ℕ → List Said → List A) (G : ℕ → Said → List A) (nothing : (n : ℕ) → F n [] ≡ []) (more : (n : ℕ) (s : Said) (ss : List Said) → F n (s ∷ ss) ≡ G n s ++ F (n + 1) ss) where
  pub pushed_from : (n k : ℕ) (ss : List Said) (s : Said) → k ≡ n + length ss → F n (ss ++ s ∷ []) ≡ F n ss ++ G k s
  pushed_from n k [] s e = more n s [] ∙ (ap (λ l. G n s ++ l) (nothing (n + 1)) ∙ (append-nil (G n s) ∙ (ap (λ j. G j s) (let same : n ≡ k = omega arith in same) ∙ ap (λ l. l ++ G k s) (sym (nothing n)))))
  pushed_from n k (t ∷ ss) s e =
      more n t (ss ++ s ∷ []) ∙ (ap (λ l. G n t ++ l) (pushed_from (n + 1) k ss s (omega arith)) ∙ (sym (append_assoc (G n t) (F (n + 1) ss) (G k s)) ∙ ap (λ l. l ++ G k s) (sym (more n t ss))))

pub lexical_push : (k : ℕ) (ss : List Said) (s : Said) → k ≡ length ss → lexical_faults 0 (ss ++ s ∷ []) ≡ lexical_faults 0 ss ++ lexical_at k s.fault
lexical_push k ss s e = pushed_from lexical_faults (λ n s. lexical_at n s.fault) (λ n. refl) (λ n s ss. refl) 0 k ss s (omega arith)

pub pieces_push : (k : ℕ) (ss : List Said) (s : Said) → k ≡ length ss → piece_faults 0 (ss ++ s ∷ []) ≡ piece_faults 0 ss ++ flat_map (piece_fault k) s.pieces
pieces_push k ss s e = pushed_from piece_faults (λ n s. flat_map (piece_fault n) s.pieces) (λ n. refl) (λ n s ss. refl) 0 k ss s (omega arith)

pub forms_push : (k : ℕ) (ss : List Said) (s : Said) → k ≡ length ss → forms_of 0 (ss ++ s ∷ []) ≡ forms_of 0 ss ++ flat_map (form_at k) s.pieces
forms_push k ss s e = pushed_from forms_of (λ n s. flat_map (form_at n) s.pieces) (λ n. refl) (λ n s ss. refl) 0 k ss s (omega arith)

pub uses_push : (k : ℕ) (ss : List Said) (s : Said) → k ≡ length ss → uses_of 0 (ss ++ s ∷ []) ≡ uses_of 0 ss ++ uses_on k s.fault s.pieces
uses_push k ss s e = pushed_from uses_of (λ n s. uses_on n s.fault s.pieces) (λ n. refl) (λ n s ss. refl) 0 k ss s (omega arith)

pub header_first : (ss : List Said) (s : Said) → 0 ≡ length ss → header_of (ss ++ s ∷ []) ≡ header_in s.fault s.pieces
header_first [] s e = refl
header_first (t ∷ ss) s e = absurd (omega arith)

pub header_later : (ss : List Said) (s : Said) → 0 < length ss → header_of (ss ++ s ∷ []) ≡ header_of ss
header_later [] s h = absurd (omega arith)
header_later (t ∷ ss) s h = refl

pub performers_push : (us vs : List (ℕ × List ℕ)) → performers_of (us ++ vs) ≡ joined (performers_of us) (performers_of vs)
performers_push us vs = λ i. record {
  robot = list_any-append (λ (u : ℕ × List ℕ). names_robot (performer_named u.1)) us vs i;
  pen = list_any-append (λ (u : ℕ × List ℕ). names_pen (performer_named u.1)) us vs i;
}

pub unknown_push : (us vs : List (ℕ × List ℕ)) → unknown_of (us ++ vs) ≡ unknown_of us ++ unknown_of vs
unknown_push us vs = flat_map-append (λ (u : ℕ × List ℕ). unknown_at u.0 (performer_named u.1)) us vs

-- ---- one piece more

pub flat_more : {A : Type 0} (P : Heard → List A) (hs : List code.Heard) (h : code.Heard) → flat_map P (map heard_of (hs ++ h ∷ [])) ≡ flat_map P (map heard_of hs) ++ P (heard_of h)
flat_more P hs h = ap (flat_map P) (map-append heard_of hs (h ∷ [])) ∙ (flat_map-append P (map heard_of hs) (heard_of h ∷ []) ∙ ap (λ l. flat_map P (map heard_of hs) ++ l) (append-nil (P (heard_of h))))

pub flat_next : {A : Type 0} (P : Heard → List A) (hs : List code.Heard) (i : ℕ) (d : code.Heard) → i < length hs → flat_map P (map heard_of (take (i + 1) hs)) ≡ flat_map P (map heard_of (take i hs)) ++ P (heard_of (get_or hs i d))
flat_next P hs i d h = ap (λ l. flat_map P (map heard_of l)) (take_more hs i d h) ∙ flat_more P (take i hs) (get_or hs i d)

pub joined_none : (p : Performers) → joined p (performers_of []) ≡ p
joined_none p = λ i. record { robot = or-false p.robot i; pen = or-false p.pen i }

pub joined_both : (p q r : Performers) → joined (joined p q) r ≡ joined p (joined q r)
joined_both p q r = λ i. record { robot = or_assoc p.robot q.robot r.robot i; pen = or_assoc p.pen q.pen r.pen i }

-- ---- what is added to a list, piece by piece

pub added_next : {A : Type 0} (P : Heard → List A) (old mid new : List A) (hs : List code.Heard) (i : ℕ) (d : code.Heard)
    → i < length hs → d ≡ get_or hs i d → mid ≡ old ++ flat_map P (map heard_of (take i hs)) → new ≡ mid ++ P (heard_of d) → new ≡ old ++ flat_map P (map heard_of (take (i + 1) hs))
added_next P old mid new hs i d h is before now =
    now ∙ (ap (λ l. l ++ P (heard_of d)) before ∙ (append_assoc old (flat_map P (map heard_of (take i hs))) (P (heard_of d)) ∙ ap (λ l. old ++ l) (ap (λ x. flat_map P (map heard_of (take i hs)) ++ P (heard_of x)) is ∙ sym (flat_next P hs i d h))))

pub added_more : {A : Type 0} (P : Heard → List A) (old mid new : List A) (hs : List code.Heard) (d : code.Heard)
    → mid ≡ old ++ flat_map P (map heard_of hs) → new ≡ mid ++ P (heard_of d) → new ≡ old ++ flat_map P (map heard_of (hs ++ d ∷ []))
added_more P old mid new hs d before now =
    now ∙ (ap (λ l. l ++ P (heard_of d)) before ∙ (append_assoc old (flat_map P (map heard_of hs)) (P (heard_of d)) ∙ ap (λ l. old ++ l) (sym (flat_more P hs d))))

-- ---- performers, piece by piece

pub joined_next : (n : ℕ) (old mid new : Performers) (hs : List code.Heard) (i : ℕ) (d : code.Heard)
    → i < length hs → d ≡ get_or hs i d → mid ≡ joined old (performers_of (flat_map (use_in n) (map heard_of (take i hs)))) → new ≡ joined mid (performers_of (use_in n (heard_of d))) → new ≡ joined old (performers_of (flat_map (use_in n) (map heard_of (take (i + 1) hs))))
joined_next n old mid new hs i d h is before now =
    let us = flat_map (use_in n) (map heard_of (take i hs)) in
    now ∙ (ap (λ p. joined p (performers_of (use_in n (heard_of d)))) before ∙ (joined_both old (performers_of us) (performers_of (use_in n (heard_of d)))
    ∙ ap (joined old) (sym (performers_push us (use_in n (heard_of d))) ∙ ap performers_of (ap (λ x. us ++ use_in n (heard_of x)) is ∙ sym (flat_next (use_in n) hs i d h)))))

pub unknown_next : (n : ℕ) (old mid new : List Fault) (hs : List code.Heard) (i : ℕ) (d : code.Heard)
    → i < length hs → d ≡ get_or hs i d → mid ≡ old ++ unknown_of (flat_map (use_in n) (map heard_of (take i hs))) → new ≡ mid ++ unknown_of (use_in n (heard_of d)) → new ≡ old ++ unknown_of (flat_map (use_in n) (map heard_of (take (i + 1) hs)))
unknown_next n old mid new hs i d h is before now =
    let us = flat_map (use_in n) (map heard_of (take i hs)) in
    now ∙ (ap (λ l. l ++ unknown_of (use_in n (heard_of d))) before ∙ (append_assoc old (unknown_of us) (unknown_of (use_in n (heard_of d)))
    ∙ ap (λ l. old ++ l) (sym (unknown_push us (use_in n (heard_of d))) ∙ ap unknown_of (ap (λ x. us ++ use_in n (heard_of x)) is ∙ sym (flat_next (use_in n) hs i d h)))))

-- ---- one line more

zero_or : (n : ℕ) → (n ≡ 0) ⊎ (0 < n)
zero_or zero = inl refl
zero_or (suc n) = inr (omega arith)

pub gathered_more : (line : ℕ) (old new : Gathered) (s : code_said.Said)
    → line ≡ length old.said → IsGathered old (map said_of old.said)
    → new.said ≡ old.said ++ s ∷ []
    → new.lexical ≡ old.lexical ++ lexical_at line s.fault
    → new.pieces ≡ old.pieces ++ flat_map (piece_fault line) (map heard_of s.pieces.items)
    → map placed_of new.forms.items ≡ map placed_of old.forms.items ++ flat_map (form_at line) (map heard_of s.pieces.items)
    → (line ≡ 0 → some_head new.header ≡ header_in s.fault (map heard_of s.pieces.items))
    → (0 < line → new.header ≡ old.header)
    → new.performers ≡ joined old.performers (performers_of (uses_on line s.fault (map heard_of s.pieces.items)))
    → new.unknown ≡ old.unknown ++ unknown_of (uses_on line s.fault (map heard_of s.pieces.items))
    → IsGathered new (map said_of new.said)
gathered_more line old new s number g said lexical pieces forms first later performers unknown =
    let ss = map said_of old.said in
    let t = said_of s in
    let k : line ≡ length ss = number ∙ sym (length-map old.said said_of) in
    let uses = uses_push line ss t k in
    subst (IsGathered new) (sym (ap (map said_of) said ∙ map-append said_of old.said (s ∷ [])))
    (record {
      lexical = lexical ∙ (ap (λ l. l ++ lexical_at line s.fault) g.lexical ∙ sym (lexical_push line ss t k));
      pieces = pieces ∙ (ap (λ l. l ++ flat_map (piece_fault line) t.pieces) g.pieces ∙ sym (pieces_push line ss t k));
      forms = forms ∙ (ap (λ l. l ++ flat_map (form_at line) t.pieces) g.forms ∙ sym (forms_push line ss t k));
      header = ⊎_elim
          (λ (none : line ≡ 0). first none ∙ sym (header_first ss t (sym none ∙ k)))
          (λ (some : 0 < line). ap some_head (later some) ∙ (g.header ∙ sym (header_later ss t (omega (arith, k)))))
          (zero_or line);
      performers = performers ∙ (ap (λ p. joined p (performers_of (uses_on line s.fault t.pieces))) g.performers ∙ (sym (performers_push (uses_of 0 ss) (uses_on line s.fault t.pieces)) ∙ ap performers_of (sym uses)));
      unknown = unknown ∙ (ap (λ l. l ++ unknown_of (uses_on line s.fault t.pieces)) g.unknown ∙ (sym (unknown_push (uses_of 0 ss) (uses_on line s.fault t.pieces)) ∙ ap unknown_of (sym uses)));
    })

pub number_next : (at : ℕ) (ss new : List code_said.Said) (s : code_said.Said) → at ≡ length ss → new ≡ ss ++ s ∷ [] → at + 1 ≡ length new
number_next at ss new s e more = omega (arith, ap length more, length-append ss (s ∷ []))

pub not_some : {A : Type 0} (o : Option A) → is_some o ≡ false → o ≡ None
not_some None e = refl
not_some (Some x) e = absurd (let none : ⊥ = cc in none)
