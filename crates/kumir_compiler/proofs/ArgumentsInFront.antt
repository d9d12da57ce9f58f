-- Arguments, and the hidden slots that they keep.
use Rattle.std.proofs.Common.{◌≡◌, ℕ, zero, suc, ◌+◌, ◌-◌, ◌<◌, ◌≤◌, List, [], ◌∷◌, ◌++◌, length, map, drop, take, get_or, refl, sym, ap, ◌∙◌, arith, append_assoc, drop-cons, min, ◌⊎◌, ⊎_elim}
use Rattle.std.proofs.lemmas.List.{drop_all}
use Rattle.kumir_tree.specs.declared.expr.Expr.{Expr}
use Rattle.kumir_tree.specs.declared.header.Param.{Param}
use Rattle.kumir_tree.specs.Tree.{Trees, no_trees, ◌then◌}
use Rattle.kumir_tree.specs.Seen.{tree, trees}
use Rattle.kumir_tree.specs.Parts.{formal_of}
use Rattle.stack_code.specs.declared.instruction.Instruction.TheVariants as instruction
use Rattle.kumir_compiler.specs.Code.{Code, Site, on, keeps, kept_at, keep_code, call_places, argument_code, tree_code, place_code, read_code, trees_code, arguments_code}
use Rattle.kumir_compiler.specs.CallsSeen.{keeps_in}

-- ---- one argument more
pub one_tree : (all : List Expr) (k : ℕ) (e : Expr) → k < length all → e ≡ get_or all k e → trees (drop k all) ≡ tree e then trees (drop (suc k) all)
one_tree all k e lt is = ap trees (drop-cons all k e lt) ∙ ap (λ x. tree x then trees (drop (suc k) all)) (sym is)

pub one_formal : (params : List Param) (k : ℕ) (p : Param) → k < length params → p ≡ get_or params k p → map formal_of (drop k params) ≡ formal_of p ∷ map formal_of (drop (suc k) params)
one_formal params k p lt is = ap (map formal_of) (drop-cons params k p lt) ∙ ap (λ x. formal_of x ∷ map formal_of (drop (suc k) params)) (sym is)

pub one_keeps : (params : List Param) (all : List Expr) (k : ℕ) (p : Param) (e : Expr) → k < length params → k < length all → p ≡ get_or params k p → e ≡ get_or all k e
    → keeps_in (trees (drop k all)) (map formal_of (drop k params)) ≡ keeps (formal_of p).bounds (formal_of p).mode (tree e) + keeps_in (trees (drop (suc k) all)) (map formal_of (drop (suc k) params))
one_keeps params all k p e lp la ip ie = ap (λ es. keeps_in es (map formal_of (drop k params))) (one_tree all k e la ie) ∙ ap (keeps_in (tree e then trees (drop (suc k) all))) (one_formal params k p lp ip)

no_keeps : (es : Trees) → keeps_in es [] ≡ 0
no_keeps no_trees = refl
no_keeps (e then es) = refl

pub no_more_keeps : (params : List Param) (all : List Expr) (n : ℕ) → (length all ≤ n) → keeps_in (trees (drop n all)) (map formal_of (drop n params)) ≡ 0
no_more_keeps params all n le = ap (λ l. keeps_in (trees l) (map formal_of (drop n params))) (drop_all n all le)

pub no_more_params : (params : List Param) (all : List Expr) (n : ℕ) → (length params ≤ n) → keeps_in (trees (drop n all)) (map formal_of (drop n params)) ≡ 0
no_more_params params all n le = ap (λ l. keeps_in (trees (drop n all)) (map formal_of l)) (drop_all n params le) ∙ no_keeps (trees (drop n all))

no_code : (es : Trees) (t : Site) (d : ℕ) → arguments_code es [] t d ≡ []
no_code no_trees t d = refl
no_code (e then es) t d = refl

pub no_more_code : (params : List Param) (all : List Expr) (n : ℕ) (t : Site) (d : ℕ) → (length all ≤ n) → arguments_code (trees (drop n all)) (map formal_of (drop n params)) t d ≡ []
no_more_code params all n t d le = ap (λ l. arguments_code (trees l) (map formal_of (drop n params)) t d) (drop_all n all le)

pub no_code_left : (params : List Param) (all : List Expr) (n : ℕ) (t : Site) (d : ℕ) → (length params ≤ n) → arguments_code (trees (drop n all)) (map formal_of (drop n params)) t d ≡ []
no_code_left params all n t d le = ap (λ l. arguments_code (trees (drop n all)) (map formal_of l) t d) (drop_all n params le) ∙ no_code (trees (drop n all)) t d

abbrev pub code_at : Param → Expr → Site → ℕ → Code
code_at p e t d = argument_code (formal_of p).bounds (formal_of p).mode (tree_code (tree e) t d) (place_code (tree e) t d) (read_code (tree e) t d)

pub one_argument : (params : List Param) (all : List Expr) (k : ℕ) (p : Param) (e : Expr) (t : Site) (d n : ℕ) (new old first : Code) → k < length params → k < length all → p ≡ get_or params k p → e ≡ get_or all k e
    → d + keeps (formal_of p).bounds (formal_of p).mode (tree e) ≡ n → old ≡ arguments_code (trees (drop (suc k) all)) (map formal_of (drop (suc k) params)) t n ++ first → new ≡ code_at p e t d ++ old
    → new ≡ arguments_code (trees (drop k all)) (map formal_of (drop k params)) t d ++ first
one_argument params all k p e t d n new old first lp la ip ie sum before own =
    own ∙ ap (λ l. code_at p e t d ++ l) (before ∙ ap (λ m. arguments_code (trees (drop (suc k) all)) (map formal_of (drop (suc k) params)) t m ++ first) (sym sum))
    ∙ sym (append_assoc (code_at p e t d) (arguments_code (trees (drop (suc k) all)) (map formal_of (drop (suc k) params)) t (d + keeps (formal_of p).bounds (formal_of p).mode (tree e))) first)
    ∙ ap (λ ps. arguments_code (tree e then trees (drop (suc k) all)) ps t d ++ first) (sym (one_formal params k p lp ip))
    ∙ ap (λ es. arguments_code es (map formal_of (drop k params)) t d ++ first) (sym (one_tree all k e la ie))

-- ---- hidden slots
pub kept_more : (m x : ℕ) (hs : List ℕ) → kept_at (suc m) x hs ≡ (x + m) ∷ kept_at m x hs
kept_more zero x hs = ap (λ n. n ∷ hs) (let e : x ≡ x + 0 = omega arith in e)
kept_more (suc m) x hs = kept_more m (suc x) (x ∷ hs) ∙ ap (λ n. n ∷ kept_at (suc m) x hs) (let e : suc x + m ≡ x + suc m = omega arith in e)

pub keep_more : (count k first : ℕ) (t : Site) → k < count → on t (instruction.Store (first + k)) ∷ keep_code (count - suc k) (first + suc k) t ≡ keep_code (count - k) (first + k) t
keep_more count k first t lt =
    ap (λ n. on t (instruction.Store (first + k)) ∷ keep_code (count - suc k) n t) (let e : first + suc k ≡ suc (first + k) = omega arith in e)
    ∙ ap (λ n. keep_code n (first + k) t) (let e : suc (count - suc k) ≡ count - k = omega (arith, lt) in e)

-- ---- behind the last argument
past : (a b n : ℕ) → min a b ≤ n → (a ≤ n) ⊎ (b ≤ n)
past a b n le = grind (arith, le)

pub no_keeps_past : (params : List Param) (all : List Expr) (n : ℕ) → min (length params) (length all) ≤ n → keeps_in (trees (drop n all)) (map formal_of (drop n params)) ≡ 0
no_keeps_past params all n le = ⊎_elim (λ p. no_more_params params all n p) (λ a. no_more_keeps params all n a) (past (length params) (length all) n le)

pub no_code_past : (params : List Param) (all : List Expr) (n : ℕ) (t : Site) (d : ℕ) → min (length params) (length all) ≤ n → arguments_code (trees (drop n all)) (map formal_of (drop n params)) t d ≡ []
no_code_past params all n t d le = ⊎_elim (λ p. no_code_left params all n t d p) (λ a. no_more_code params all n t d a) (past (length params) (length all) n le)

-- ---- lines that are put
pub one_kept : (t : Site) (count at k first to : ℕ) (new old base : Code) → at ≡ suc k → at ≤ count → to ≡ first + k → old ≡ keep_code (count - at) (first + at) t ++ base → new ≡ on t (instruction.Store to) ∷ old
    → new ≡ keep_code (count - k) (first + k) t ++ base
one_kept t count at k first to new old base e le is before own =
    own ∙ ap (λ n. on t (instruction.Store n) ∷ old) is ∙ ap (λ l. on t (instruction.Store (first + k)) ∷ l) (before ∙ ap (λ n. keep_code (count - n) (first + n) t ++ base) e)
    ∙ ap (λ l. l ++ base) (keep_more count k first t (omega (arith, e, le)))

abbrev pub loads : Site → List ℕ → Code
loads t hs = map (λ x. on t (instruction.Load x)) hs

pub one_loaded : (t : Site) (first at to : ℕ) (new old base : Code) → to ≡ first + at → old ≡ loads t (kept_at at first []) ++ base → new ≡ on t (instruction.Load to) ∷ old → new ≡ loads t (kept_at (at + 1) first []) ++ base
one_loaded t first at to new old base is before own =
    own ∙ ap (λ n. on t (instruction.Load n) ∷ old) is ∙ ap (λ l. on t (instruction.Load (first + at)) ∷ l) before
    ∙ ap (λ hs. loads t hs ++ base) (sym (kept_more at first []) ∙ (let e : suc at ≡ at + 1 = omega arith in ap (λ n. kept_at n first []) e))

-- ---- places
no_places : (es : Trees) (t : Site) (d : ℕ) → call_places es [] t d ≡ []
no_places no_trees t d = refl
no_places (e then es) t d = refl

pub no_places_past : (params : List Param) (all : List Expr) (n : ℕ) (t : Site) (d : ℕ) → min (length params) (length all) ≤ n → call_places (trees (drop n all)) (map formal_of (drop n params)) t d ≡ []
no_places_past params all n t d le =
    ⊎_elim (λ p. ap (λ l. call_places (trees (drop n all)) (map formal_of l) t d) (drop_all n params p) ∙ no_places (trees (drop n all)) t d)
    (λ a. ap (λ l. call_places (trees l) (map formal_of (drop n params)) t d) (drop_all n all a))
    (past (length params) (length all) n le)

pub one_slot : (slots more : List ℕ) (first at k to : ℕ) (all : List ℕ) → at ≡ suc k → to ≡ first + k → more ≡ slots ++ to ∷ [] → slots ++ kept_at at first [] ≡ all → more ++ kept_at k first [] ≡ all
one_slot slots more first at k to all e is pushed before =
    ap (λ l. l ++ kept_at k first []) (pushed ∙ ap (λ n. slots ++ n ∷ []) is) ∙ append_assoc slots ((first + k) ∷ []) (kept_at k first [])
    ∙ ap (λ l. slots ++ l) (sym (kept_more k first []) ∙ ap (λ n. kept_at n first []) (sym e)) ∙ before

-- ---- the slots that an argument keeps are among those of all
keeps_split : (params : List Param) (all : List Expr) (n : ℕ)
    → keeps_in (trees all) (map formal_of params) ≡ keeps_in (trees (take n all)) (map formal_of (take n params)) + keeps_in (trees (drop n all)) (map formal_of (drop n params))
keeps_split params all zero = omega arith
keeps_split [] all (suc n) =
    let a = no_keeps (trees all) in
    let b = no_keeps (trees (take (suc n) all)) in
    let c = no_keeps (trees (drop (suc n) all)) in
    omega (arith, a, b, c)
keeps_split (p ∷ params) [] (suc n) = omega arith
keeps_split (p ∷ params) (e ∷ all) (suc n) = let more = keeps_split params all n in omega (arith, more)

pub own_kept : (params : List Param) (all : List Expr) (at k kept hidden own : ℕ) (p : Param) (e : Expr) → at ≡ suc k → k < length params → k < length all → p ≡ get_or params k p → e ≡ get_or all k e
    → kept + keeps_in (trees (drop at all)) (map formal_of (drop at params)) ≡ hidden + keeps_in (trees all) (map formal_of params) → own ≡ keeps (formal_of p).bounds (formal_of p).mode (tree e) → own ≤ kept
own_kept params all at k kept hidden own p e is lp la ip ie sum own_is =
    let parts = keeps_split params all k in
    let one = one_keeps params all k p e lp la ip ie in
    let behind = ap (λ n. keeps_in (trees (drop n all)) (map formal_of (drop n params))) is in
    omega (arith, parts, one, behind, sum, own_is)
