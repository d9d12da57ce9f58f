-- Loops: the line at the end goes back to the step in front.
use Rattle.std.proofs.Common.{◌≡◌, ℕ, suc, ◌+◌, ◌-◌, ◌<◌, ◌≤◌, List, [], ◌∷◌, ◌++◌, length, Option, Result, Ok, Err, refl, sym, ap, ◌∙◌, subst, arith, append_assoc, length-append}
use Rattle.std.specs.Prelude.{IfOk}
use Rattle.kumir_tree.specs.Tree.{Tree}
use Rattle.kumir_tree.specs.Program.{Act, Block, Until}
use Rattle.kumir_meaning.specs.Program.{act_names, block_names}
use Rattle.stack_code.specs.declared.instruction.Instruction.TheVariants as instruction
use Rattle.kumir_compiler.specs.Code as code
use Rattle.kumir_compiler.specs.Code.{Line, Code, on, on_line, jump_no, jump_back, jump_no_back, next_turn, while_code, turns_code, forever_code, until_code, tree_code, act_code, block_code}
use Rattle.kumir_compiler.specs.declared.pending.PendingLine.{PendingLine}
use Rattle.kumir_compiler.specs.declared.pending.Pending.{Pending}
use Rattle.kumir_compiler.specs.declared.site.Site.{Site}
use Rattle.kumir_compiler.specs.PendingCode.{line_of, code_of, IsChanged}
use Rattle.kumir_compiler.specs.SitesSeen.{site_of, with_locals, EndsWith}
use Rattle.kumir_compiler.specs.BlocksPut.{IsBlock, PutsAct, PutsBlock, PutsClosed, BecomesLoop, GoesBack}
use Rattle.kumir_compiler.proofs.CodeInFront.{code_length, no_shorter}
use Rattle.kumir_compiler.proofs.BlocksInFront.{one_longer}
use Rattle.kumir_compiler.proofs.NamesBefore.{behind_is}

-- ---- a line that is changed
code_both : (a b : List PendingLine) → code_of (a ++ b) ≡ code_of a ++ code_of b
code_both [] b = refl
code_both (l ∷ a) b = ap (λ c. line_of l ∷ c) (code_both a b)

head_of : Line → Code → Line
head_of d [] = d
head_of d (x ∷ xs) = x

tail_of : Code → Code
tail_of [] = []
tail_of (x ∷ xs) = xs

record Cut (old : List PendingLine) (front : Code) (x : Line) (rest : Code) : Type 0 where
  before : List PendingLine
  line : PendingLine
  behind : List PendingLine
  is : old ≡ before ++ line ∷ behind
  before_is : code_of before ≡ front
  line_is : line_of line ≡ x
  behind_is : code_of behind ≡ rest

cut_at : (old : List PendingLine) (front : Code) (x : Line) (rest : Code) → code_of old ≡ front ++ x ∷ rest → Cut old front x rest
unfolding head_of tail_of
cut_at [] [] x rest e = absurd (let wrong : ⊥ = cc in wrong)
cut_at [] (y ∷ front) x rest e = absurd (let wrong : ⊥ = cc in wrong)
cut_at (l ∷ ls) [] x rest e = record { before = []; line = l; behind = ls; is = refl; before_is = refl; line_is = ap (head_of x) e; behind_is = ap tail_of e }
cut_at (l ∷ ls) (y ∷ front) x rest e =
    let c = cut_at ls front x rest (ap tail_of e) in
    record { before = l ∷ c.before; line = c.line; behind = c.behind; is = ap (λ k. l ∷ k) c.is; before_is = ap (λ k. line_of l ∷ k) c.before_is ∙ ap (λ z. z ∷ front) (ap (head_of y) e); line_is = c.line_is; behind_is = c.behind_is }

-- what a line does is now this
abbrev pub does : Line → Pending → Line
does x what = line_of (record { line = (x 0).line; what = what })

line_changed : (old new : List PendingLine) (front rest : Code) (x : Line) (at : ℕ) (what : Pending) → code_of old ≡ front ++ x ∷ rest → length rest ≡ at → IsChanged at what old new → code_of new ≡ front ++ does x what ∷ rest
line_changed old new front rest x at what e long is =
    let c = cut_at old front x rest e in
    let short : length c.behind ≡ at = sym (code_length c.behind) ∙ ap length c.behind_is ∙ long in
    ap code_of (is c.before c.line c.behind c.is short) ∙ code_both c.before (record { line = c.line.line; what = what } ∷ c.behind)
    ∙ ap (λ k. k ++ line_of (record { line = c.line.line; what = what }) ∷ code_of c.behind) c.before_is
    ∙ ap (λ k. front ++ line_of (record { line = c.line.line; what = what }) ∷ k) c.behind_is
    ∙ ap (λ z. front ++ line_of (record { line = (z 0).line; what = what }) ∷ rest) c.line_is

-- ---- the step in front
pub stepped_back : (back : code.Site → ℕ → Line) (what : ℕ → Pending) (t : code.Site) (end over : ℕ) (old mid new : List PendingLine)
    → ((s : code.Site) (n m : ℕ) → does (back s n) (what m) ≡ back s m) → code_of mid ≡ on t instruction.Step ∷ code_of old → length mid ≡ over + (end + 1) → IsChanged end (what over) mid new
    → GoesBack back t end old new
stepped_back back what t end over old mid new same put long is = λ s front rest e size.
    let whole : code_of mid ≡ (on t instruction.Step ∷ front) ++ back s 0 ∷ rest = put ∙ ap (λ l. on t instruction.Step ∷ l) e in
    let n = sym (code_length mid) ∙ ap length whole ∙ length-append (on t instruction.Step ∷ front) (back s 0 ∷ rest) in
    let o : over ≡ length front + 1 = omega (arith, n, long, size) in
    line_changed mid new (on t instruction.Step ∷ front) rest (back s 0) end (what over) whole size is
    ∙ ap (λ x. on t instruction.Step ∷ (front ++ x ∷ rest)) (same s 0 over)
    ∙ ap (λ m. on t instruction.Step ∷ (front ++ back s m ∷ rest)) o

-- no line goes back, where there is none
pub too_short : (back : code.Site → ℕ → Line) (t : code.Site) (end : ℕ) (old mid : List PendingLine) → code_of mid ≡ on t instruction.Step ∷ code_of old → length mid < end + 1 → GoesBack back t end old mid
too_short back t end old mid put short = λ s front rest e size.
    let long = one_longer mid old (on t instruction.Step) put in
    let n = sym (code_length old) ∙ ap length e ∙ length-append front (back s 0 ∷ rest) in
    absurd (let wrong : ⊥ = omega (arith, short, long, n, size) in wrong)

-- ---- `нц пока`
pub while_ends : (t : code.Site) (test : Code) (end n : ℕ) (old o1 o2 new : List PendingLine) → n ≡ length old - end → code_of o1 ≡ jump_no t n ∷ code_of old → code_of o2 ≡ test ++ code_of o1 → GoesBack jump_back t end o2 new
    → BecomesLoop t end (λ body. while_code test body t) old new
while_ends t test end n old o1 o2 new ns f g back = λ body rest is long.
    let l0 = sym (code_length old) ∙ ap length is ∙ length-append body (jump_back t 0 ∷ rest) in
    let n1 : n ≡ length body + 1 = omega (arith, ns, l0, long) in
    let inner : Code = jump_no t (length body + 1) ∷ body in
    let front : Code = test ++ inner in
    let split : code_of o2 ≡ front ++ jump_back t 0 ∷ rest =
    g ∙ ap (λ l. test ++ l) (f ∙ ap (λ m. jump_no t m ∷ code_of old) n1 ∙ ap (λ l. jump_no t (length body + 1) ∷ l) is) ∙ sym (append_assoc test inner (jump_back t 0 ∷ rest)) in
    let sizes = length-append test inner in
    let over : length front + 1 ≡ length body + 1 + length test + 1 = omega (arith, sizes) in
    let last : Code = jump_back t (length body + 1 + length test + 1) ∷ [] in
    back t front rest split long ∙ ap (λ m. on t instruction.Step ∷ (front ++ jump_back t m ∷ rest)) over
    ∙ ap (λ l. on t instruction.Step ∷ l) (append_assoc test inner (last ++ rest) ∙ ap (λ l. test ++ (jump_no t (length body + 1) ∷ l)) (sym (append_assoc body last rest)) ∙ sym (append_assoc test (jump_no t (length body + 1) ∷ (body ++ last)) rest))

-- ---- loops with turns
pub turns_end : (t : code.Site) (x end n : ℕ) (v : Option ℕ) (old o1 new : List PendingLine) → n ≡ length old - end → code_of o1 ≡ next_turn t x v n ∷ code_of old → GoesBack jump_back t end o1 new → BecomesLoop t end (λ body. turns_code x v body t) old new
turns_end t x end n v old o1 new ns f back = λ body rest is long.
    let l0 = sym (code_length old) ∙ ap length is ∙ length-append body (jump_back t 0 ∷ rest) in
    let n1 : n ≡ length body + 1 = omega (arith, ns, l0, long) in
    let front : Code = next_turn t x v (length body + 1) ∷ body in
    let split : code_of o1 ≡ front ++ jump_back t 0 ∷ rest = f ∙ ap (λ m. next_turn t x v m ∷ code_of old) n1 ∙ ap (λ l. next_turn t x v (length body + 1) ∷ l) is in
    let over : length front + 1 ≡ length body + 2 = omega arith in
    back t front rest split long ∙ ap (λ m. on t instruction.Step ∷ (front ++ jump_back t m ∷ rest)) over
    ∙ ap (λ l. on t instruction.Step ∷ next_turn t x v (length body + 1) ∷ l) (sym (append_assoc body (jump_back t (length body + 2) ∷ []) rest))

-- a loop with code in front of it
pub in_front : (t : code.Site) (end : ℕ) (loop : Code → Code) (front : Code) (old mid new : List PendingLine) → BecomesLoop t end loop old mid → code_of new ≡ front ++ code_of mid → BecomesLoop t end (λ body. front ++ loop body) old new
in_front t end loop front old mid new made put = λ body rest is long. put ∙ ap (λ l. front ++ l) (made body rest is long) ∙ sym (append_assoc front (loop body) rest)

-- the turns of `нц для`
pub range_in_front : (t : code.Site) (end : ℕ) (loop : Code → Code) (a b c : Code) (old mid new : List PendingLine) → BecomesLoop t end loop old mid → code_of new ≡ a ++ (b ++ (c ++ code_of mid)) → BecomesLoop t end (λ body. a ++ (b ++ (c ++ loop body))) old new
range_in_front t end loop a b c old mid new made put = λ body rest is long.
    put ∙ ap (λ l. a ++ (b ++ (c ++ l))) (made body rest is long) ∙ ap (λ l. a ++ (b ++ l)) (sym (append_assoc c (loop body) rest))
    ∙ ap (λ l. a ++ l) (sym (append_assoc b (c ++ loop body) rest)) ∙ sym (append_assoc a (b ++ (c ++ loop body)) rest)

-- ---- `всегда`
pub forever_ends : (t : code.Site) (end : ℕ) (old new : List PendingLine) → GoesBack jump_back t end old new → BecomesLoop t end (λ body. forever_code body t) old new
forever_ends t end old new back = λ body rest is long. back t body rest is long ∙ ap (λ l. on t instruction.Step ∷ l) (sym (append_assoc body (jump_back t (length body + 1) ∷ []) rest))

-- ---- `кц при`
pub until_acts : (s : Site) (start hidden end line : ℕ) (b : Block) (e : Tree) (old o1 o2 new : List PendingLine) → end ≡ length old
    → code_of o1 ≡ on (on_line (site_of s) line) instruction.Step ∷ (tree_code e (on_line (site_of s) line) hidden ++ (jump_no_back (on_line (site_of s) line) 0 ∷ code_of old))
    → PutsBlock s start hidden end b o1 o2 → GoesBack jump_no_back (site_of s) end o2 new → PutsClosed s start hidden (Until b line e) old new
until_acts s start hidden end line b e old o1 o2 new is put puts back = λ exit room ends.
    let u : code.Site = on_line (site_of s) line in
    let T : Code = tree_code e u hidden in
    let step : Line = on u instruction.Step in
    let base : Code = code_of old in
    let l1 = sym (code_length o1) ∙ ap length put in
    let l2 = length-append T (jump_no_back u 0 ∷ base) in
    let l3 = code_length old in
    let block = puts (omega (arith, is, l1, l2, l3)) ends in
    let n : length o1 - end ≡ length T + 2 = omega (arith, is, l1, l2, l3) in
    let t : code.Site = with_locals s start in
    let B : Code = block_code b t hidden (length T + 2) in
    let front : Code = B ++ (step ∷ T) in
    let split : code_of o2 ≡ front ++ jump_no_back u 0 ∷ base =
    block.code ∙ ap (λ m. block_code b t hidden m ++ code_of o1) n ∙ ap (λ l. B ++ l) put ∙ sym (append_assoc B (step ∷ T) (jump_no_back u 0 ∷ base)) in
    let sizes = length-append B (step ∷ T) in
    let over : length front + 1 ≡ length T + 1 + length B + 1 = omega (arith, sizes) in
    let last : Code = jump_no_back u (length T + 1 + length B + 1) ∷ [] in
    let same = behind_is s start s.locals (block_names b) ends block.names in
    record {
      names = block.names;
      code =
          back u front base split (code_length old ∙ sym is) ∙ ap (λ m. on t instruction.Step ∷ (front ++ jump_no_back u m ∷ base)) over
          ∙ ap (λ l. on t instruction.Step ∷ l) (append_assoc B (step ∷ T) (last ++ base) ∙ ap (λ l. B ++ (step ∷ l)) (sym (append_assoc T last base)) ∙ sym (append_assoc B (step ∷ (T ++ last)) base))
          ∙ ap (λ z. until_code (block_code b t hidden (length (tree_code e (on_line z line) hidden) + 2)) (tree_code e (on_line z line) hidden) t (on_line z line) ++ base) (sym same);
    }

-- ---- a loop, whose body is a block
pub loop_acts : (s : Site) (start hidden deep end : ℕ) (b : Block) (a : Act) (loop : Code → Code) (old o1 o2 new : List PendingLine) → end ≡ length old → code_of o1 ≡ jump_back (site_of s) 0 ∷ code_of old → PutsBlock s start deep end b o1 o2
    → BecomesLoop (site_of s) end loop o2 new → block_names b ≡ act_names a → ((after : ℕ) → loop (block_code b (with_locals s start) deep 1) ≡ act_code a (with_locals s start) hidden after) → PutsClosed s start hidden a old new
loop_acts s start hidden deep end b a loop old o1 o2 new is f puts made same_names same_code = λ exit room ends.
    let back : Line = jump_back (site_of s) 0 in
    let l1 = one_longer o1 old back f in
    let n : length o1 - end ≡ 1 = omega (arith, is, l1) in
    let block = puts (omega (arith, is, l1)) (subst (λ names. EndsWith s names) (sym same_names) ends) in
    let body : Code = block_code b (with_locals s start) deep 1 in
    record {
      names = ap (λ names. start + length names) (sym same_names) ∙ block.names;
      code =
          made body (code_of old) (block.code ∙ ap (λ m. block_code b (with_locals s start) deep m ++ code_of o1) n ∙ ap (λ l. body ++ l) f) (code_length old ∙ sym is)
          ∙ ap (λ c. c ++ code_of old) (same_code (length old - exit));
    }

-- what no `выход` leads out of, by the statement that it is
pub closed_acts : {E : Type 0} (r : Result ℕ E) (s : Site) (hidden exit : ℕ) (a b : Act) (old new : List PendingLine) → b ≡ a → IfOk r (λ start. PutsClosed s start hidden a old new) → IfOk r (λ start. PutsAct s start hidden exit b old new)
closed_acts (Ok start) s hidden exit a b old new is puts = subst (λ c. PutsAct s start hidden exit c old new) (sym is) (puts exit)
closed_acts (Err e) s hidden exit a b old new is puts = tt
