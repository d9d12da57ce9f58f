-- What is a header is read as one.
use Rattle.std.proofs.Common.{◌≡◌, ℕ, zero, suc, ◌-◌, ◌<◌, ◌≤◌, Bool, true, false, List, [], ◌∷◌, ◌++◌, length, drop, Option, Some, None, ap, ◌∙◌, refl, arith, append_assoc, length-append}
use Rattle.std.specs.Prelude.{is_some}
use Rattle.kumir_tree.specs.Part.{Limits, Formal}
use Rattle.kumir_tree.specs.declared.kind.Kind.{Kind}
use Rattle.kumir_tree.specs.declared.kind.Mode.{Mode}
use Rattle.kumir_tree.specs.declared.token.Token.{Token}
use Rattle.kumir_tree.specs.declared.token.Token.TheVariants as t
use Rattle.kumir_tree.specs.declared.token.Sign.TheVariants as s
use Rattle.kumir_tree.specs.declared.token.Key.{Key}
use Rattle.kumir_tree.specs.declared.token.Key.TheVariants as k
use Rattle.expr_forms.specs.Forms as is
use Rattle.expr_forms.specs.Forms.{kind_of, table_kind_of, mode_of, IsName, IsKind, IsMode, IsBounds, IsGiven, Perhaps, said_or, kind_from, has_bounds, IsParam, IsParams, IsSignature}
use Rattle.expr_forms.specs.Looks.{mapped, first, sees, sees_key, behind, same_sign, same_key}
use Rattle.expr_forms.specs.Reading.{closed}
use Rattle.expr_forms.specs.PartReading.{kind_at, name, bounds}
use Rattle.expr_forms.specs.HeaderReading.{mode_at, said_mode, said_kind, perhaps_bounds, same_bool, param_of, param, params_from, params, bracketed_params, signature, name_at, header_of, header}
use Rattle.expr_forms.proofs.Cases.{none_is}
use Rattle.expr_forms.proofs.PartComplete.{bounds_complete}

-- ---- modes and kinds

-- no mode stands here
record NoMode (rest : List Token) : Type 0 where
  no_arg : sees_key k.Arg rest ≡ false
  no_res : sees_key k.Res rest ≡ false
  no_word : mode_at (first rest) ≡ None

mode_word : (w : Key) (m : Mode) → mode_of w ≡ Some m → (rest : List Token) → NoMode rest → said_mode (t.Key w ∷ rest) ≡ (Some m, rest)
unfolding said_mode same_key
mode_word k.Arg m e rest h = rw h.no_res (ap (λ o. (o, rest)) e)
mode_word k.Res m e rest h = ap (λ o. (o, rest)) e
mode_word k.ArgRes m e rest h = ap (λ o. (o, rest)) e
mode_word w m e rest h = none_is e

one_mode : {ts : List Token} {m : Mode} → IsMode ts m → (rest : List Token) → NoMode rest → said_mode (ts ++ rest) ≡ (Some m, rest)
unfolding said_mode same_key
one_mode (is.one_word {w} {m} e) rest h = mode_word w m e rest h
one_mode is.two_words rest h = refl

mode_complete : {ts : List Token} {m : Option Mode} → Perhaps IsMode ts m → (rest : List Token) → NoMode rest → said_mode (ts ++ rest) ≡ (m, rest)
unfolding said_mode same_key
mode_complete is.missing rest h = rw (h.no_arg, h.no_word) refl
mode_complete (is.there {x = m} a) rest h = one_mode a rest h

kind_no_mode : (w : Key) (d : Kind) → kind_of w ≡ Some d → (rest : List Token) → NoMode (t.Key w ∷ rest)
unfolding same_key
kind_no_mode k.Whole d e rest = record { no_arg = refl; no_res = refl; no_word = refl }
kind_no_mode k.Truth d e rest = record { no_arg = refl; no_res = refl; no_word = refl }
kind_no_mode w d e rest = none_is e

table_kind_no_mode : (w : Key) (d : Kind) → table_kind_of w ≡ Some d → (rest : List Token) → NoMode (t.Key w ∷ rest)
unfolding same_key
table_kind_no_mode k.WholeTable d e rest = record { no_arg = refl; no_res = refl; no_word = refl }
table_kind_no_mode k.TruthTable d e rest = record { no_arg = refl; no_res = refl; no_word = refl }
table_kind_no_mode w d e rest = none_is e

pub table_no_kind : (w : Key) (d : Kind) → table_kind_of w ≡ Some d → kind_of w ≡ None
table_no_kind k.WholeTable d e = refl
table_no_kind k.TruthTable d e = refl
table_no_kind w d e = none_is e

one_kind_no_mode : {ts : List Token} {d : Kind × Bool} → IsKind ts d → (rest : List Token) → NoMode (ts ++ rest)
one_kind_no_mode (is.scalar {w} {d} e) rest = kind_no_mode w d e rest
one_kind_no_mode (is.table {w} {d} e) rest = kind_no_mode w d e (t.Key k.Table ∷ rest)
one_kind_no_mode (is.table_word {w} {d} e) rest = table_kind_no_mode w d e rest

no_mode_before : {ts : List Token} {d : Option (Kind × Bool)} → Perhaps IsKind ts d → (x : List ℕ) (rest : List Token) → NoMode (ts ++ t.Named x ∷ rest)
no_mode_before is.missing x rest = record { no_arg = refl; no_res = refl; no_word = refl }
no_mode_before (is.there a) x rest = one_kind_no_mode a (t.Named x ∷ rest)

scalar_reads : (w : Key) (d : Kind) (x : List ℕ) (rest : List Token) → kind_of w ≡ Some d → said_kind (t.Key w ∷ t.Named x ∷ rest) ≡ (Some (d, false), t.Named x ∷ rest)
unfolding said_kind
scalar_reads w d x rest e = rw e refl

table_reads : (w : Key) (d : Kind) (x : List ℕ) (rest : List Token) → kind_of w ≡ Some d → said_kind (t.Key w ∷ t.Key k.Table ∷ t.Named x ∷ rest) ≡ (Some (d, true), t.Named x ∷ rest)
unfolding said_kind same_key
table_reads w d x rest e = rw e refl

table_word_reads : (w : Key) (d : Kind) (x : List ℕ) (rest : List Token) → kind_of w ≡ None → table_kind_of w ≡ Some d → said_kind (t.Key w ∷ t.Named x ∷ rest) ≡ (Some (d, true), t.Named x ∷ rest)
unfolding said_kind
table_word_reads w d x rest none e = rw (none, e) refl

one_kind : {ts : List Token} {d : Kind × Bool} → IsKind ts d → (x : List ℕ) (rest : List Token) → said_kind (ts ++ t.Named x ∷ rest) ≡ (Some d, t.Named x ∷ rest)
one_kind (is.scalar {w} {d} e) x rest = scalar_reads w d x rest e
one_kind (is.table {w} {d} e) x rest = table_reads w d x rest e
one_kind (is.table_word {w} {d} e) x rest = table_word_reads w d x rest (table_no_kind w d e) e

kind_complete : {ts : List Token} {d : Option (Kind × Bool)} → Perhaps IsKind ts d → (x : List ℕ) (rest : List Token) → said_kind (ts ++ t.Named x ∷ rest) ≡ (d, t.Named x ∷ rest)
unfolding said_kind
kind_complete is.missing x rest = refl
kind_complete (is.there a) x rest = one_kind a x rest

-- ---- parameters

some_bounds_read : (us rest : List Token) (bs : Limits) → sees s.OpenSquare us ≡ true → bounds (drop 1 us) ≡ Some (bs, rest) → perhaps_bounds us ≡ Some (Some bs, rest)
unfolding perhaps_bounds
some_bounds_read us rest bs h j = rw (h, j) refl

no_bounds_read : (us : List Token) → sees s.OpenSquare us ≡ false → perhaps_bounds us ≡ Some (None, us)
unfolding perhaps_bounds
no_bounds_read us h = rw h refl

perhaps_bounds_complete : {ts : List Token} {bs : Option Limits} → Perhaps IsBounds ts bs → (rest : List Token) → sees s.OpenSquare rest ≡ false → perhaps_bounds (ts ++ rest) ≡ Some (bs, rest)
perhaps_bounds_complete is.missing rest h = no_bounds_read rest h
perhaps_bounds_complete (is.there {ts} {x = bs} a) rest h = let c = bounds_complete ts bs a rest in some_bounds_read (ts ++ rest) rest bs c.opens c.reads

same_true : (b : Bool) → same_bool b b ≡ true
same_true true = refl
same_true false = refl

param_of_reads : (m : Mode) (d : Kind) (x : List ℕ) (bs : Option Limits) (us rest : List Token) → perhaps_bounds us ≡ Some (bs, rest)
    → param_of m (Some (d, has_bounds bs)) (t.Named x ∷ us) ≡ Some (record { mode = m; kind = d; name = x; bounds = bs }, rest)
unfolding param_of name
param_of_reads m d x bs us rest h = rw (h, same_true (has_bounds bs)) refl

param_reads : (before : Mode) (above : Option (Kind × Bool)) (m : Option Mode) (said : Option (Kind × Bool)) (ts us vs : List Token) → said_mode ts ≡ (m, us) → said_kind us ≡ (said, vs)
    → param before above ts ≡ param_of (said_or before m) (kind_from above said) vs
unfolding param
param_reads before above m said ts us vs h j = rw (h, j) refl

param_complete : {before : Mode} {above : Option (Kind × Bool)} {ts : List Token} {p : Formal} → IsParam before above ts p → (rest : List Token) → sees s.OpenSquare rest ≡ false → param before above (ts ++ rest) ≡ Some (p, rest)
param_complete {before} {above} (is.param {ts} {us} {vs} {m} {said} {d} {x} {bs} a b c e) rest h =
    let end = t.Named x ∷ (vs ++ rest) in
    let same : (ts ++ (us ++ t.Named x ∷ vs)) ++ rest ≡ ts ++ (us ++ end) = append_assoc ts (us ++ t.Named x ∷ vs) rest ∙ ap (λ l. ts ++ l) (append_assoc us (t.Named x ∷ vs) rest) in
    ap (param before above) same
    ∙ param_reads before above m said (ts ++ (us ++ end)) (us ++ end) end (mode_complete a (us ++ end) (no_mode_before b x (vs ++ rest))) (kind_complete b x (vs ++ rest))
    ∙ ap (λ o. param_of (said_or before m) o end) e
    ∙ param_of_reads (said_or before m) d x bs (vs ++ rest) rest (perhaps_bounds_complete c rest h)

param_some : {before : Mode} {above : Option (Kind × Bool)} {ts : List Token} {p : Formal} → IsParam before above ts p → 0 < length ts
param_some (is.param {ts} {us} {vs} {m} {said} {d} {x} a b c e) = omega (arith, length-append ts (us ++ t.Named x ∷ vs), length-append us (t.Named x ∷ vs))

params_end : (n : ℕ) (before : Mode) (above : Option (Kind × Bool)) (found : List Formal) (us rest : List Token) (p : Formal) → 0 < n → param before above us ≡ Some (p, rest) → sees s.Comma rest ≡ false
    → params_from n before above found us ≡ Some (found ++ p ∷ [], rest)
unfolding params_from
params_end zero before above found us rest p lt h c = absurd (let none : ⊥ = omega arith in none)
params_end (suc n) before above found us rest p lt h c = rw (h, c) refl

params_go_on : (n : ℕ) (before : Mode) (above : Option (Kind × Bool)) (found : List Formal) (us vs : List Token) (p : Formal) → 0 < n → param before above us ≡ Some (p, t.Sign s.Comma ∷ vs)
    → params_from n before above found us ≡ params_from (n - 1) p.mode (Some (p.kind, has_bounds p.bounds)) (found ++ p ∷ []) vs
unfolding params_from same_sign
params_go_on zero before above found us vs p lt h = absurd (let none : ⊥ = omega arith in none)
params_go_on (suc n) before above found us vs p lt h =
    let one : n ≡ suc n - 1 = omega arith in
    rw h (ap (λ m. params_from m p.mode (Some (p.kind, has_bounds p.bounds)) (found ++ p ∷ []) vs) one)

params_complete : {before : Mode} {above : Option (Kind × Bool)} {ts : List Token} {ps : List Formal} → IsParams before above ts ps → (n : ℕ) → length ts ≤ n → (found : List Formal) (rest : List Token) → sees s.Comma rest ≡ false → sees s.OpenSquare rest ≡ false
    → params_from n before above found (ts ++ rest) ≡ Some (found ++ ps, rest)
unfolding same_sign
params_complete (is.last_param {before} {above} {ts} {p} a) n le found rest c h = params_end n before above found (ts ++ rest) rest p (omega (arith, param_some a)) (param_complete a rest h) c
params_complete (is.next_param {before} {above} {ts} {us} {p} {ps} a b) n le found rest c h =
    let fits = length-append ts (t.Sign s.Comma ∷ us) in
    ap (params_from n before above found) (append_assoc ts (t.Sign s.Comma ∷ us) rest)
    ∙ params_go_on n before above found (ts ++ t.Sign s.Comma ∷ (us ++ rest)) (us ++ rest) p (omega (arith, fits)) (param_complete a (t.Sign s.Comma ∷ (us ++ rest)) refl)
    ∙ params_complete b (n - 1) (omega (arith, fits)) (found ++ p ∷ []) rest c h
    ∙ ap (λ l. Some (l, rest)) (append_assoc found (p ∷ []) ps)

-- ---- the brackets of a header

-- parameters do not begin with a closing bracket
one_mode_begins : {ts : List Token} {m : Mode} → IsMode ts m → (rest : List Token) → sees s.Close (ts ++ rest) ≡ false
one_mode_begins (is.one_word e) rest = refl
one_mode_begins is.two_words rest = refl

one_kind_begins : {ts : List Token} {d : Kind × Bool} → IsKind ts d → (rest : List Token) → sees s.Close (ts ++ rest) ≡ false
one_kind_begins (is.scalar e) rest = refl
one_kind_begins (is.table e) rest = refl
one_kind_begins (is.table_word e) rest = refl

kind_begins : {ts : List Token} {d : Option (Kind × Bool)} → Perhaps IsKind ts d → (x : List ℕ) (rest : List Token) → sees s.Close (ts ++ t.Named x ∷ rest) ≡ false
kind_begins is.missing x rest = refl
kind_begins (is.there a) x rest = one_kind_begins a (t.Named x ∷ rest)

mode_begins : {ts us : List Token} {m : Option Mode} {d : Option (Kind × Bool)} → Perhaps IsMode ts m → Perhaps IsKind us d → (x : List ℕ) (rest : List Token) → sees s.Close (ts ++ (us ++ t.Named x ∷ rest)) ≡ false
mode_begins is.missing b x rest = kind_begins b x rest
mode_begins {us} (is.there a) b x rest = one_mode_begins a (us ++ t.Named x ∷ rest)

param_begins : {before : Mode} {above : Option (Kind × Bool)} {ts : List Token} {p : Formal} → IsParam before above ts p → (rest : List Token) → sees s.Close (ts ++ rest) ≡ false
param_begins (is.param {ts} {us} {vs} {m} {said} {d} {x} a b c e) rest =
    ap (sees s.Close) (append_assoc ts (us ++ t.Named x ∷ vs) rest ∙ ap (λ l. ts ++ l) (append_assoc us (t.Named x ∷ vs) rest)) ∙ mode_begins a b x (vs ++ rest)

params_begin : {before : Mode} {above : Option (Kind × Bool)} {ts : List Token} {ps : List Formal} → IsParams before above ts ps → (rest : List Token) → sees s.Close (ts ++ rest) ≡ false
params_begin (is.last_param a) rest = param_begins a rest
params_begin (is.next_param {before} {above} {ts} {us} a b) rest = ap (sees s.Close) (append_assoc ts (t.Sign s.Comma ∷ us) rest) ∙ param_begins a (t.Sign s.Comma ∷ (us ++ rest))

signature_reads : (us : List Token) (ps : List Formal) → sees s.Close us ≡ false → params us ≡ Some (ps, t.Sign s.Close ∷ []) → signature (t.Sign s.Open ∷ us) ≡ Some (ps, [])
unfolding signature bracketed_params closed same_sign
signature_reads us ps h j = rw (h, j) refl

signature_whole : {ts : List Token} {ps : List Formal} → IsSignature ts ps → signature ts ≡ Some (ps, [])
unfolding signature bracketed_params same_sign
signature_whole is.no_brackets = refl
signature_whole is.no_params = refl
signature_whole (is.params {ts} {ps} a) =
    signature_reads (ts ++ t.Sign s.Close ∷ []) ps (params_begin a (t.Sign s.Close ∷ []))
    (params_complete a (length (ts ++ t.Sign s.Close ∷ [])) (omega (arith, length-append ts (t.Sign s.Close ∷ []))) [] (t.Sign s.Close ∷ []) refl refl)

-- ---- headers

signature_no_name : {ts : List Token} {ps : List Formal} → IsSignature ts ps → name_at (first ts) ≡ None
signature_no_name is.no_brackets = refl
signature_no_name is.no_params = refl
signature_no_name (is.params a) = refl

signature_no_kind : {ts : List Token} {ps : List Formal} → IsSignature ts ps → kind_at (first ts) ≡ None
signature_no_kind is.no_brackets = refl
signature_no_kind is.no_params = refl
signature_no_kind (is.params a) = refl

named_no_kind : {us : List Token} {x : List ℕ} → IsName us x → (vs : List Token) → kind_at (first (us ++ vs)) ≡ None
named_no_kind is.name vs = refl

name_no_kind : {us vs : List Token} {x : Option (List ℕ)} {ps : List Formal} → Perhaps IsName us x → IsSignature vs ps → kind_at (first (us ++ vs)) ≡ None
name_no_kind is.missing b = signature_no_kind b
name_no_kind {vs} (is.there {ts} a) b = named_no_kind a vs

record GivenRead (ts : List Token) (d : Option Kind) (rest : List Token) : Type 0 where
  kind : kind_at (first (ts ++ rest)) ≡ d
  left : behind (is_some (kind_at (first (ts ++ rest)))) (ts ++ rest) ≡ rest

one_given : {ts : List Token} {d : Kind} → IsGiven ts d → (rest : List Token) → GivenRead ts (Some d) rest
one_given (is.gives {w} e) rest = record { kind = e; left = ap (λ o. behind (is_some o) (t.Key w ∷ rest)) e }

given_complete : {ts : List Token} {d : Option Kind} → Perhaps IsGiven ts d → (rest : List Token) → kind_at (first rest) ≡ None → GivenRead ts d rest
given_complete is.missing rest h = record { kind = h; left = ap (λ o. behind (is_some o) rest) h }
given_complete (is.there a) rest h = one_given a rest

record NameRead (ts : List Token) (x : Option (List ℕ)) (rest : List Token) : Type 0 where
  name : name_at (first (ts ++ rest)) ≡ x
  left : behind (is_some (name_at (first (ts ++ rest)))) (ts ++ rest) ≡ rest

one_name : {ts : List Token} {x : List ℕ} → IsName ts x → (rest : List Token) → NameRead ts (Some x) rest
one_name is.name rest = record { name = refl; left = refl }

name_complete : {ts : List Token} {x : Option (List ℕ)} → Perhaps IsName ts x → (rest : List Token) → name_at (first rest) ≡ None → NameRead ts x rest
name_complete is.missing rest h = record { name = h; left = ap (λ o. behind (is_some o) rest) h }
name_complete (is.there a) rest h = one_name a rest

header_of_reads : (d : Option Kind) (x : Option (List ℕ)) (ps : List Formal) (us vs : List Token) → name_at (first us) ≡ x → behind (is_some (name_at (first us))) us ≡ vs → signature vs ≡ Some (ps, [])
    → header_of d us ≡ Some (record { name = x; gives = d; params = ps; line = 0 }, [])
unfolding header_of
header_of_reads d x ps us vs h j e =
    ap (λ l. mapped (λ (qs : List Formal). record { name = name_at (first us); gives = d; params = qs; line = 0 }) (signature l)) j
    ∙ ap (mapped (λ (qs : List Formal). record { name = name_at (first us); gives = d; params = qs; line = 0 })) e
    ∙ ap (λ (o : Option (List ℕ)). Some (record { name = o; gives = d; params = ps; line = 0 }, [])) h

header_reads : (d : Option Kind) (us vs : List Token) → kind_at (first us) ≡ d → behind (is_some (kind_at (first us))) us ≡ vs → header us ≡ header_of d vs
unfolding header
header_reads d us vs h j = λ i. header_of (h i) (j i)

pub header_complete : {ts us vs : List Token} {given : Option Kind} {x : Option (List ℕ)} {ps : List Formal} → Perhaps IsGiven ts given → Perhaps IsName us x → IsSignature vs ps
    → header (ts ++ (us ++ vs)) ≡ Some (record { name = x; gives = given; params = ps; line = 0 }, [])
header_complete {ts} {us} {vs} {given} {x} {ps} a b c =
    let g = given_complete a (us ++ vs) (name_no_kind b c) in
    let n = name_complete b vs (signature_no_name c) in
    header_reads given (ts ++ (us ++ vs)) (us ++ vs) g.kind g.left ∙ header_of_reads given x ps (us ++ vs) vs n.name n.left (signature_whole c)
