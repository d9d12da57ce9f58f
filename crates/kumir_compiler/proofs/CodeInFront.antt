-- Code that is put in front of code.
use Rattle.std.proofs.Common.{◌≡◌, ℕ, ◌+◌, ◌-◌, ◌≤◌, List, [], ◌∷◌, ◌++◌, length, drop, get_or, refl, sym, ap, ◌∙◌, arith, append_assoc, length-append}
use Rattle.std.specs.Prelude.{Option}
use Rattle.std.proofs.lemmas.List.{append-nil}
use Rattle.kumir_tree.specs.declared.kind.Kind.{Kind}
use Rattle.kumir_tree.specs.declared.kind.Op.{Op}
use Rattle.kumir_tree.specs.declared.kind.Op.TheVariants as op
use Rattle.kumir_compiler.specs.Code.{Line, Code, Site, operator_code}
use Rattle.kumir_compiler.specs.declared.pending.PendingLine.{PendingLine}
use Rattle.kumir_compiler.specs.PendingCode.{code_of, between_code, behind_code}

pub one_behind : (new a mid old : Code) (x : Line) → new ≡ a ++ mid → mid ≡ x ∷ old → new ≡ (a ++ (x ∷ [])) ++ old
one_behind new a mid old x e f = e ∙ ap (λ l. a ++ l) f ∙ sym (append_assoc a (x ∷ []) old)

pub code_length : (ls : List PendingLine) → length (code_of ls) ≡ length ls
code_length [] = refl
code_length (l ∷ ls) = omega (arith, code_length ls)

pub no_shorter : (new old : List PendingLine) (a : Code) → code_of new ≡ a ++ code_of old → length new ≡ length a + length old
no_shorter new old a e =
    let x = ap length e in
    let y = length-append a (code_of old) in
    let z = code_length new in
    let w = code_length old in
    omega (arith, x, y, z, w)

operator_is : (o : Op) (k : Option Kind) (a b : Code) (t : Site) → operator_code o k a b t ≡ a ++ (between_code o (length b) t ++ (b ++ behind_code o k t))
operator_is op.Or k a b t = ap (λ l. a ++ (between_code op.Or (length b) t ++ l)) (sym (append-nil b))
operator_is op.And k a b t = refl
operator_is op.Equal k a b t = refl
operator_is op.NotEqual k a b t = refl
operator_is op.Less k a b t = refl
operator_is op.Greater k a b t = refl
operator_is op.LessOrEqual k a b t = refl
operator_is op.GreaterOrEqual k a b t = refl
operator_is op.Plus k a b t = refl
operator_is op.Minus k a b t = refl
operator_is op.Times k a b t = refl
operator_is op.Power k a b t = refl

pub operator_made : (o : Op) (k : Option Kind) (a b : Code) (t : Site) (n : ℕ) (one two three new old : Code)
    → one ≡ behind_code o k t ++ old → two ≡ b ++ one → n ≡ length b → three ≡ between_code o n t ++ two → new ≡ a ++ three → new ≡ operator_code o k a b t ++ old
operator_made o k a b t n one two three new old e f g h i =
    i ∙ ap (λ l. a ++ l) (h ∙ ap (λ m. between_code o m t ++ two) g ∙ ap (λ l. between_code o (length b) t ++ l) (f ∙ ap (λ l. b ++ l) e ∙ sym (append_assoc b (behind_code o k t) old)) ∙ sym (append_assoc (between_code o (length b) t) (b ++ behind_code o k t) old))
    ∙ sym (append_assoc a (between_code o (length b) t ++ (b ++ behind_code o k t)) old) ∙ ap (λ l. l ++ old) (sym (operator_is o k a b t))

pub ruleset joins = (one_behind, append_assoc)
