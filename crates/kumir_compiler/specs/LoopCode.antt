-- The code of loops and choices, by the codes of their parts.
use Rattle.std.specs.Prelude.{ℕ, ◌+◌, [], ◌∷◌, ◌++◌, length, Option}
use Rattle.stack_code.specs.declared.instruction.Instruction.TheVariants as instruction
use Rattle.kumir_compiler.specs.Sites.{Code, Site, on, jump, jump_no, jump_back, jump_no_back, next_turn}

-- test and body of `пока`
abbrev pub while_code : Code → Code → Site → Code
while_code test body t =
    on t instruction.Step ∷ (test ++ (jump_no t (length body + 1) ∷ (body ++ (jump_back t (length body + 1 + length test + 1) ∷ []))))

-- the turns of the loop in a hidden slot
abbrev pub turns_code : ℕ → Option ℕ → Code → Site → Code
turns_code x v body t =
    on t instruction.Step ∷ next_turn t x v (length body + 1) ∷ (body ++ (jump_back t (length body + 2) ∷ []))

abbrev pub forever_code : Code → Site → Code
forever_code body t = on t instruction.Step ∷ (body ++ (jump_back t (length body + 1) ∷ []))

-- the body stands at t, the end with its test at s
abbrev pub until_code : Code → Code → Site → Site → Code
until_code body test t s =
    on t instruction.Step ∷ (body ++ (on s instruction.Step ∷ (test ++ (jump_no_back s (length test + 1 + length body + 1) ∷ []))))

-- one of two codes, by the value on top
abbrev pub choice_code : Code → Code → Site → Code
choice_code a b t = jump_no t (length a + 1) ∷ (a ++ (jump t (length b) ∷ b))
