-- The names that are local before a piece of code.
use Rattle.std.proofs.Common.{◌≡◌, ℕ, suc, ◌+◌, ◌<◌, ◌≤◌, List, [], ◌∷◌, ◌++◌, length, take, get_or, refl, sym, ap, ◌∙◌, arith, append_assoc, length-append, length-take}
use Rattle.std.proofs.lemmas.List.{take-take, append-nil}
use Rattle.std.proofs.Math.Seq.{take-append_seam, take-suc}
use Rattle.kumir_tree.specs.declared.statement.Statement.{Statement}
use Rattle.kumir_tree.specs.Blocks.{stmt_of, block_of}
use Rattle.kumir_names.specs.Variables.{Names}
use Rattle.kumir_meaning.specs.Program.{stmt_names, block_names}
use Rattle.kumir_compiler.specs.Sites.{behind}
use Rattle.kumir_compiler.specs.declared.site.Site.{Site}
use Rattle.kumir_compiler.specs.SitesSeen.{site_of, with_locals, EndsWith}

-- the names before those with which the local names end
pub front_is : (s : Site) (start n : ℕ) (names : Names) (e : EndsWith (record s { locals = n }) names) → start + length names ≡ n → take start s.names.now ≡ e.front
front_is s start n names e is =
    let all : Names = s.names.now in
    let enough : n ≤ length all = e.within in
    let shorter = length-take n all in
    let long : length (take n all) ≡ n = omega (arith, shorter, enough) in
    let whole : take n all ≡ e.front ++ names = e.ends in
    let sizes = ap length whole in
    let parts = length-append e.front names in
    let short : start ≡ length e.front = omega (arith, long, sizes, parts, is) in
    sym (let le : start ≤ n = omega (arith, is) in take-take start n all le) ∙ ap (take start) whole ∙ ap (λ m. take m (e.front ++ names)) short ∙ take-append_seam e.front names

pub behind_is : (s : Site) (start n : ℕ) (names : Names) → EndsWith (record s { locals = n }) names → start + length names ≡ n → behind (with_locals s start) names ≡ with_locals s n
behind_is s start n names e is =
    let whole : take n s.names.now ≡ e.front ++ names = e.ends in
    ap (λ l. record (site_of s) { locals = l }) (ap (λ l. l ++ names) (front_is s start n names e is) ∙ sym whole)

-- how many there are before them
pub as_many : (s : Site) (names : Names) → EndsWith s names → length names ≤ s.locals
as_many s names e =
    let within = e.within in
    let long = length-take s.locals s.names.now in
    let whole : take s.locals s.names.now ≡ e.front ++ names = e.ends in
    let sizes = ap length whole in
    let parts = length-append e.front names in
    omega (arith, within, long, sizes, parts)

-- ---- names in two parts
pub second_ends : (s : Site) (a b : Names) → EndsWith s (a ++ b) → EndsWith s b
second_ends s a b h = record { front = h.front ++ a; ends = h.ends ∙ sym (append_assoc h.front a b); within = h.within }

pub first_ends : (s : Site) (a b : Names) (middle : ℕ) → EndsWith s (a ++ b) → middle + length b ≡ s.locals → EndsWith (record s { locals = middle }) a
unfolding second_ends
first_ends s a b middle h sum = record {
  front = h.front;
  ends = front_is s middle s.locals b (second_ends s a b h) sum;
  within = (let le = h.within in omega (arith, le, sum));
}

-- ---- blocks
names_both : (a b : List Statement) → block_names (block_of (a ++ b)) ≡ block_names (block_of a) ++ block_names (block_of b)
names_both [] b = refl
names_both (s ∷ a) b = ap (λ l. stmt_names (stmt_of s) ++ l) (names_both a b) ∙ sym (append_assoc (stmt_names (stmt_of s)) (block_names (block_of a)) (block_names (block_of b)))

pub last_names : (block : List Statement) (k : ℕ) (s : Statement) → k < length block → s ≡ get_or block k s → block_names (block_of (take (suc k) block)) ≡ block_names (block_of (take k block)) ++ stmt_names (stmt_of s)
last_names block k s lt is =
    ap (λ l. block_names (block_of l)) (take-suc block k s lt) ∙ names_both (take k block) (get_or block k s ∷ [])
    ∙ ap (λ l. block_names (block_of (take k block)) ++ l) (append-nil (stmt_names (stmt_of (get_or block k s))))
    ∙ ap (λ x. block_names (block_of (take k block)) ++ stmt_names (stmt_of x)) (sym is)
