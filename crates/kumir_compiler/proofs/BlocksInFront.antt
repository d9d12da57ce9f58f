-- Statements that are put in front of others.
use Rattle.std.proofs.Common.{◌≡◌, ℕ, suc, ◌+◌, ◌-◌, ◌<◌, ◌≤◌, List, [], ◌∷◌, ◌++◌, length, take, drop, get_or, refl, sym, ap, ◌∙◌, subst, arith, append_assoc, length-append, drop-cons}
use Rattle.std.proofs.lemmas.List.{take_all, drop_all}
use Rattle.kumir_tree.specs.declared.statement.Statement.{Statement}
use Rattle.kumir_tree.specs.Program.{◌next◌}
use Rattle.kumir_tree.specs.Blocks.{stmt_of, block_of}
use Rattle.kumir_meaning.specs.Program.{stmt_names, block_names}
use Rattle.kumir_compiler.specs.Code.{Line, Code, stmt_code, block_code}
use Rattle.kumir_compiler.specs.declared.pending.PendingLine.{PendingLine}
use Rattle.kumir_compiler.specs.declared.site.Site.{Site}
use Rattle.kumir_compiler.specs.PendingCode.{code_of}
use Rattle.kumir_compiler.specs.SitesSeen.{with_locals, EndsWith}
use Rattle.kumir_compiler.specs.BlocksPut.{IsBlock, IsStatement, PutsStatement}
use Rattle.kumir_compiler.proofs.CodeInFront.{code_length, no_shorter}
use Rattle.kumir_compiler.proofs.NamesBefore.{behind_is, second_ends, first_ends, last_names}

pub one_longer : (new old : List PendingLine) (x : Line) → code_of new ≡ x ∷ code_of old → length new ≡ length old + 1
one_longer new old x e = let a = sym (code_length new) ∙ ap length e in let b = code_length old in omega (arith, a, b)

-- the names of the statements before one and its own
both_end : (s : Site) (block : List Statement) (at k : ℕ) (x : Statement) → at ≡ suc k → k < length block → x ≡ get_or block k x → EndsWith s (block_names (block_of (take at block)))
    → EndsWith s (block_names (block_of (take k block)) ++ stmt_names (stmt_of x))
both_end s block at k x e lt is h = subst (λ names. EndsWith s names) (ap (λ n. block_names (block_of (take n block))) e ∙ last_names block k x lt is) h

-- one statement more
one_more : (s : Site) (block : List Statement) (at k start n hidden exit : ℕ) (x : Statement) (first old new : List PendingLine) → at ≡ suc k → k < length block → x ≡ get_or block k x → EndsWith (record s { locals = n }) (stmt_names (stmt_of x))
    → exit ≤ length first
    → IsBlock s n hidden exit (block_of (drop at block)) first old → IsStatement (record s { locals = n }) start hidden exit (stmt_of x) old new → IsBlock s start hidden exit (block_of (drop k block)) first new
one_more s block at k start n hidden exit x first old new e lt is ends le before own =
    let same = behind_is s start n (stmt_names (stmt_of x)) ends own.names in
    let rest = block_of (drop at block) in
    let after : ℕ = length first - exit in
    let is_drop : block_of (drop k block) ≡ stmt_of x next rest = ap block_of (drop-cons block k x lt) ∙ ap (λ y. stmt_of y next block_of (drop (suc k) block)) (sym is) ∙ ap (λ m. stmt_of x next block_of (drop m block)) (sym e) in
    let c : Code = block_code rest (with_locals s n) hidden after in
    let sizes = no_shorter old first c before.code in
    let n1 : length old - exit ≡ length c + after = omega (arith, sizes, le) in
    record {
      names = ap (λ b. start + length (block_names b)) is_drop ∙ ap (λ m. start + m) (length-append (stmt_names (stmt_of x)) (block_names rest)) ∙ (let a = own.names in let b = before.names in omega (arith, a, b));
      code =
          own.code ∙ ap (λ m. stmt_code (stmt_of x) (with_locals s start) hidden m ++ code_of old) n1
          ∙ ap (λ l. stmt_code (stmt_of x) (with_locals s start) hidden (length c + after) ++ l) before.code
          ∙ sym (append_assoc (stmt_code (stmt_of x) (with_locals s start) hidden (length c + after)) c (code_of first))
          ∙ ap (λ z. (stmt_code (stmt_of x) (with_locals s start) hidden (length (block_code rest z hidden after) + after) ++ block_code rest z hidden after) ++ code_of first) (sym same)
          ∙ ap (λ b. block_code b (with_locals s start) hidden after ++ code_of first) (sym is_drop);
    }

-- ---- the loop over a block, from its end
pub record SoFar (s : Site) (block : List Statement) (at locals hidden exit : ℕ) (first out : List PendingLine) : Type 0 where
  pub room : exit ≤ length out
  pub before : EndsWith (record s { locals = locals }) (block_names (block_of (take at block)))
  pub behind : IsBlock s locals hidden exit (block_of (drop at block)) first out

pub at_end : (s : Site) (block : List Statement) (n hidden exit : ℕ) (out : List PendingLine) → n ≡ length block → exit ≤ length out → EndsWith s (block_names (block_of block)) → SoFar s block n s.locals hidden exit out out
at_end s block n hidden exit out e room ends = record {
  room = room;
  before = subst (λ b. EndsWith s (block_names (block_of b))) (sym (take_all n block (let le : length block ≤ n = omega (arith, e) in le))) ends;
  behind = subst (λ b. IsBlock s s.locals hidden exit (block_of b) out out) (sym (drop_all n block (let le : length block ≤ n = omega (arith, e) in le))) (record { names = omega arith; code = refl });
}

pub goes_on : (s : Site) (block : List Statement) (at k start n hidden exit : ℕ) (x : Statement) (first old new : List PendingLine) → at ≡ suc k → k < length block → x ≡ get_or block k x → exit ≤ length first
    → SoFar s block at n hidden exit first old → PutsStatement (record s { locals = n }) start hidden exit (stmt_of x) old new → SoFar s block k start hidden exit first new
goes_on s block at k start n hidden exit x first old new e lt is le so puts =
    let here : Site = record s { locals = n } in
    let early = block_names (block_of (take k block)) in
    let own_names = stmt_names (stmt_of x) in
    let both = both_end here block at k x e lt is so.before in
    let ends = second_ends here early own_names both in
    let own = puts so.room ends in
    let longer = no_shorter new old (stmt_code (stmt_of x) (with_locals here start) hidden (length old - exit)) own.code in
    let r = so.room in
    record {
      room = omega (arith, longer, r);
      before = first_ends here early own_names start both own.names;
      behind = one_more s block at k start n hidden exit x first old new e lt is ends le so.behind own;
    }

pub ended : (s : Site) (block : List Statement) (at locals hidden exit : ℕ) (first out : List PendingLine) → at ≡ 0 → SoFar s block at locals hidden exit first out → IsBlock s locals hidden exit (block_of block) first out
ended s block at locals hidden exit first out e so = subst (λ n. IsBlock s locals hidden exit (block_of (drop n block)) first out) e so.behind
