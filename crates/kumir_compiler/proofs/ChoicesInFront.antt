-- Choices: each way ends in a jump over what is behind it.
use Rattle.std.proofs.Common.{◌≡◌, ℕ, suc, ◌+◌, ◌-◌, ◌<◌, ◌≤◌, List, [], ◌∷◌, ◌++◌, length, take, drop, get_or, Result, Ok, Err, refl, sym, ap, ◌∙◌, subst, arith, append_assoc, length-append, drop-cons}
use Rattle.std.specs.Prelude.{IfOk}
use Rattle.std.proofs.lemmas.List.{take_all, drop_all, append-nil}
use Rattle.std.proofs.Math.Seq.{take-suc}
use Rattle.kumir_tree.specs.Tree.{Tree}
use Rattle.kumir_tree.specs.Program as t
use Rattle.kumir_tree.specs.Program.{Act, Block, Arms, no_arms, arm}
use Rattle.kumir_tree.specs.Blocks.{block_of, arms_of}
use Rattle.kumir_tree.specs.declared.statement.Case.{Case, out-Case}
use Rattle.kumir_names.specs.Variables.{Names}
use Rattle.kumir_meaning.specs.Program.{act_names, block_names, arm_names}
use Rattle.kumir_compiler.specs.Code as code
use Rattle.kumir_compiler.specs.Code.{Code, on_line, jump, jump_no, tree_code, block_code, arms_code, choice_code}
use Rattle.kumir_compiler.specs.declared.pending.PendingLine.{PendingLine}
use Rattle.kumir_compiler.specs.declared.site.Site.{Site}
use Rattle.kumir_compiler.specs.PendingCode.{code_of}
use Rattle.kumir_compiler.specs.SitesSeen.{site_of, with_locals, EndsWith}
use Rattle.kumir_compiler.specs.BlocksPut.{IsAct, IsWay, IsArms, PutsAct, PutsArms, PutsBlock}
use Rattle.kumir_compiler.proofs.CodeInFront.{code_length, no_shorter}
use Rattle.kumir_compiler.proofs.BlocksInFront.{one_longer}
use Rattle.kumir_compiler.proofs.NamesBefore.{behind_is, second_ends, first_ends}

pub way_made : (t : code.Site) (s : Site) (start hidden exit end other : ℕ) (e : Tree) (b : Block) (rest base : Code) (old o1 o2 new : List PendingLine)
    → exit ≤ end → EndsWith s (block_names b) → code_of old ≡ rest ++ base → length base ≡ end
    → code_of o1 ≡ jump t (length old - end) ∷ code_of old → other ≡ length old → PutsBlock s start hidden exit b o1 o2
    → code_of new ≡ tree_code e (record t { locals = (with_locals s start).locals }) hidden ++ (jump_no t (length o2 - other) ∷ code_of o2)
    → IsWay t s start hidden (end - exit) e b rest base new
way_made t s start hidden exit end other e b rest base old o1 o2 new room ends is long over was puts test =
    let l0 = sym (code_length old) ∙ ap length is ∙ length-append rest base in
    let l1 = one_longer o1 old (jump t (length old - end)) over in
    let own = puts (omega (arith, room, l0, l1, long)) ends in
    let after : ℕ = length rest + 1 + (end - exit) in
    let n1 : length o1 - exit ≡ after = omega (arith, room, l0, l1, long) in
    let A : Code = block_code b (with_locals s start) hidden after in
    let own_code : code_of o2 ≡ A ++ code_of o1 = own.code ∙ ap (λ n. block_code b (with_locals s start) hidden n ++ code_of o1) n1 in
    let l2 = no_shorter o2 o1 A own_code in
    let nb : length old - end ≡ length rest = omega (arith, l0, long) in
    let na : length o2 - other ≡ length A + 1 = omega (arith, was, l1, l2) in
    let T : Code = tree_code e (record t { locals = (with_locals s start).locals }) hidden in
    let over_it : code_of o1 ≡ jump t (length rest) ∷ (rest ++ base) = over ∙ ap (λ n. jump t n ∷ code_of old) nb ∙ ap (λ l. jump t (length rest) ∷ l) is in
    record {
      names = own.names;
      code =
          test ∙ ap (λ n. T ++ (jump_no t n ∷ code_of o2)) na
          ∙ ap (λ l. T ++ (jump_no t (length A + 1) ∷ l)) (own_code ∙ ap (λ l. A ++ l) over_it ∙ sym (append_assoc A (jump t (length rest) ∷ rest) base))
          ∙ sym (append_assoc T (choice_code A rest t) base);
    }

-- ---- `если`
pub choose_acts : (s : Site) (start middle hidden exit end other : ℕ) (e : Tree) (a b : Block) (old o1 o2 o3 new : List PendingLine) → exit ≤ length old → EndsWith s (block_names a ++ block_names b) → end ≡ length old → PutsBlock s middle hidden exit b old o1
    → code_of o2 ≡ jump (site_of s) (length o1 - end) ∷ code_of o1 → other ≡ length o1 → PutsBlock (record s { locals = middle }) start hidden exit a o2 o3
    → code_of new ≡ tree_code e (with_locals s start) hidden ++ (jump_no (site_of s) (length o3 - other) ∷ code_of o3)
    → IsAct s start hidden exit (t.Choose e a b) old new
choose_acts s start middle hidden exit end other e a b old o1 o2 o3 new room ends is second over was first test =
    let later = second room (second_ends s (block_names a) (block_names b) ends) in
    let after : ℕ = length old - exit in
    let B : Code = block_code b (with_locals s middle) hidden after in
    let own_names = first_ends s (block_names a) (block_names b) middle ends later.names in
    let way = way_made (site_of s) (record s { locals = middle }) start hidden exit end other e a B (code_of old) o1 o2 o3 new (omega (arith, room, is)) own_names later.code (code_length old ∙ sym is) over was first test in
    let same = behind_is s start middle (block_names a) own_names way.names in
    let T = with_locals s start in
    record {
      names = (let x = way.names in let y = later.names in let z = length-append (block_names a) (block_names b) in omega (arith, x, y, z));
      code =
          way.code
          ∙ ap (λ n. (tree_code e T hidden ++ choice_code (block_code a T hidden (length B + 1 + (n - exit))) B T) ++ code_of old) is
          ∙ ap (λ z. (tree_code e T hidden ++ choice_code (block_code a T hidden (length (block_code b z hidden after) + 1 + after)) (block_code b z hidden after) T) ++ code_of old) (sym same);
    }

-- ---- `выбор`
-- an arm, whose condition stands in this row
pub case_made : (s : Site) (start hidden exit end other line row : ℕ) (e : Tree) (b : Block) (old o1 o2 new : List PendingLine) → row ≡ s.first + line
    → code_of o1 ≡ jump (record (site_of s) { line = row }) (length old - end) ∷ code_of old → other ≡ length old → PutsBlock s start hidden exit b o1 o2
    → code_of new ≡ tree_code e (record (with_locals s start) { line = row }) hidden ++ (jump_no (record (site_of s) { line = row }) (length o2 - other) ∷ code_of o2)
    → PutsArms s start hidden exit end (arm line e b no_arms) old new
case_made s start hidden exit end other line row e b old o1 o2 new here over was puts test = λ last base room ends is long.
    let none = append-nil (block_names b) in
    let own = subst (λ names. EndsWith s names) none ends in
    let way = way_made (record (site_of s) { line = row }) s start hidden exit end other e b (last (site_of s)) base old o1 o2 new room own is long over was puts test in
    let same = behind_is s start s.locals (block_names b) own way.names in
    let after : ℕ = end - exit in
    let t : code.Site = with_locals s start in
    record {
      names = ap (λ names. start + length names) none ∙ way.names;
      code =
          way.code
          ∙ ap (λ n. (tree_code e (record t { line = n }) hidden ++ choice_code (block_code b t hidden (length (last (site_of s)) + 1 + after)) (last (site_of s)) (record t { line = n })) ++ base) here
          ∙ ap (λ z. (tree_code e (on_line t line) hidden ++ choice_code (block_code b t hidden (length (last z) + 1 + after)) (last z) (on_line t line)) ++ base) (sym same);
    }

names_both : (a b : List Case) → arm_names (arms_of (a ++ b)) ≡ arm_names (arms_of a) ++ arm_names (arms_of b)
names_both [] b = refl
names_both (c ∷ a) b = ap (λ l. block_names (block_of (out-Case c).body) ++ l) (names_both a b) ∙ sym (append_assoc (block_names (block_of (out-Case c).body)) (arm_names (arms_of a)) (arm_names (arms_of b)))

last_names : (cases : List Case) (at k : ℕ) (c : Case) → at ≡ suc k → k < length cases → c ≡ get_or cases k c → arm_names (arms_of (take at cases)) ≡ arm_names (arms_of (take k cases)) ++ arm_names (arms_of (c ∷ []))
last_names cases at k c e lt is =
    ap (λ n. arm_names (arms_of (take n cases))) e ∙ ap (λ l. arm_names (arms_of l)) (take-suc cases k c lt) ∙ names_both (take k cases) (get_or cases k c ∷ [])
    ∙ ap (λ x. arm_names (arms_of (take k cases)) ++ arm_names (arms_of (x ∷ []))) (sym is)

-- the loop over the arms, from the last one
pub record SoFar (s : Site) (cases : List Case) (at locals hidden after : ℕ) (last : code.Site → Code) (base : Code) (out : List PendingLine) : Type 0 where
  pub before : EndsWith (record s { locals = locals }) (arm_names (arms_of (take at cases)))
  pub behind : IsArms s locals hidden after (arms_of (drop at cases)) last base out

pub at_end : (s : Site) (cases : List Case) (n hidden after : ℕ) (last : code.Site → Code) (base : Code) (out : List PendingLine) → n ≡ length cases → EndsWith s (arm_names (arms_of cases)) → code_of out ≡ last (site_of s) ++ base
    → SoFar s cases n s.locals hidden after last base out
at_end s cases n hidden after last base out e ends is =
    let le : length cases ≤ n = omega (arith, e) in
    record {
      before = subst (λ l. EndsWith s (arm_names (arms_of l))) (sym (take_all n cases le)) ends;
      behind = subst (λ l. IsArms s s.locals hidden after (arms_of l) last base out) (sym (drop_all n cases le)) (record { names = omega arith; code = is });
    }

pub goes_on : (s : Site) (cases : List Case) (at k start n hidden exit end : ℕ) (c : Case) (last : code.Site → Code) (base : Code) (old new : List PendingLine) → at ≡ suc k → k < length cases → c ≡ get_or cases k c → exit ≤ end → length base ≡ end
    → SoFar s cases at n hidden (end - exit) last base old → PutsArms (record s { locals = n }) start hidden exit end (arms_of (c ∷ [])) old new → SoFar s cases k start hidden (end - exit) last base new
goes_on s cases at k start n hidden exit end c last base old new e lt is room long so puts =
    let here : Site = record s { locals = n } in
    let early = arm_names (arms_of (take k cases)) in
    let own_names = arm_names (arms_of (c ∷ [])) in
    let both = subst (λ names. EndsWith here names) (last_names cases at k c e lt is) so.before in
    let after : ℕ = end - exit in
    let rest = drop at cases in
    let own = puts (λ z. arms_code (arms_of rest) z hidden after last) base room (second_ends here early own_names both) so.behind.code long in
    let is_drop : drop k cases ≡ c ∷ rest = drop-cons cases k c lt ∙ ap (λ x. x ∷ drop (suc k) cases) (sym is) ∙ ap (λ m. c ∷ drop m cases) (sym e) in
    record {
      before = first_ends here early own_names start both own.names;
      behind = subst (λ l. IsArms s start hidden after (arms_of l) last base new) (sym is_drop) (record {
        names = (let x = own.names in let y = so.behind.names in let z = length-append (block_names (block_of (out-Case c).body)) (arm_names (arms_of rest)) in let w = length-append (block_names (block_of (out-Case c).body)) [] in omega (arith, x, y, z, w));
        code = own.code;
      });
    }

pub select_acts : (s : Site) (start middle hidden exit end : ℕ) (arms : Arms) (b : Block) (old o1 new : List PendingLine) → exit ≤ length old → EndsWith s (arm_names arms ++ block_names b) → end ≡ length old → PutsBlock s middle hidden exit b old o1
    → PutsArms (record s { locals = middle }) start hidden exit end arms o1 new → IsAct s start hidden exit (t.Select arms b) old new
select_acts s start middle hidden exit end arms b old o1 new room ends is second puts =
    let later = second room (second_ends s (arm_names arms) (block_names b) ends) in
    let after : ℕ = length old - exit in
    let last : code.Site → Code = λ z. block_code b z hidden after in
    let made = puts last (code_of old) (omega (arith, room, is)) (first_ends s (arm_names arms) (block_names b) middle ends later.names) later.code (code_length old ∙ sym is) in
    record {
      names = (let x = made.names in let y = later.names in let z = length-append (arm_names arms) (block_names b) in omega (arith, x, y, z));
      code = made.code ∙ ap (λ n. arms_code arms (with_locals s start) hidden (n - exit) last ++ code_of old) is;
    }

-- `выбор`, by the statement that it is
pub select_is : {E : Type 0} (r : Result ℕ E) (s : Site) (middle hidden exit end : ℕ) (a : Act) (arms : Arms) (b : Block) (old o1 new : List PendingLine) → a ≡ t.Select arms b → end ≡ length old → PutsBlock s middle hidden exit b old o1
    → IfOk r (λ start. PutsArms (record s { locals = middle }) start hidden exit end arms o1 new) → IfOk r (λ start. PutsAct s start hidden exit a old new)
select_is (Ok start) s middle hidden exit end a arms b old o1 new is count second puts = λ room ends.
    subst (λ x. IsAct s start hidden exit x old new) (sym is) (select_acts s start middle hidden exit end arms b old o1 new room (subst (λ x. EndsWith s (act_names x)) is ends) count second puts)
select_is (Err e) s middle hidden exit end a arms b old o1 new is count second puts = tt
