-- The lines of an algorithm, put in front from its end on.
use Rattle.std.proofs.Common.{◌≡◌, List, [], ◌∷◌, ◌++◌, sym, ap, ◌∙◌, append_assoc}
use Rattle.kumir_compiler.specs.Sites.{Line, Code}

pub return_behind : (new claim mid old : Code) (x : Line) → new ≡ claim ++ mid → mid ≡ x ∷ old → new ≡ (claim ++ (x ∷ [])) ++ old
return_behind new claim mid old x e f = e ∙ ap (λ l. claim ++ l) f ∙ sym (append_assoc claim (x ∷ []) old)

pub algorithm_made : (fits given block ends new three two one old : Code) → one ≡ ends ++ old → two ≡ block ++ one → three ≡ given ++ two → new ≡ fits ++ three
    → new ≡ (fits ++ (given ++ (block ++ ends))) ++ old
algorithm_made fits given block ends new three two one old e f g h =
    h ∙ ap (λ l. fits ++ l) (g ∙ ap (λ l. given ++ l) (f ∙ ap (λ l. block ++ l) e ∙ sym (append_assoc block ends old)) ∙ sym (append_assoc given (block ++ ends) old))
    ∙ sym (append_assoc fits (given ++ (block ++ ends)) old)
