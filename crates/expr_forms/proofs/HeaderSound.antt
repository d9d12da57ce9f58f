-- What is read as a header is one.
use Rattle.std.proofs.Common.{◌≡◌, ℕ, zero, suc, Bool, true, false, ⊎_elim, List, [], ◌∷◌, ◌++◌, length, drop, Option, Some, None, ap, sym, ◌∙◌, subst, refl, append_assoc}
use Rattle.std.specs.Prelude.{if◌then◌else◌, is_some}
use Rattle.kumir_tree.specs.Part.{Limits, Formal}
use Rattle.kumir_tree.specs.declared.kind.Kind.{Kind}
use Rattle.kumir_tree.specs.declared.kind.Mode.{Mode}
use Rattle.kumir_tree.specs.declared.kind.Mode.TheVariants as modes
use Rattle.kumir_tree.specs.declared.token.Token.{Token}
use Rattle.kumir_tree.specs.declared.token.Token.TheVariants as t
use Rattle.kumir_tree.specs.declared.token.Sign.TheVariants as s
use Rattle.kumir_tree.specs.declared.token.Key.{Key}
use Rattle.kumir_tree.specs.declared.token.Key.TheVariants as k
use Rattle.expr_forms.specs.Forms as is
use Rattle.expr_forms.specs.Forms.{kind_of, table_kind_of, mode_of, IsName, IsKind, IsMode, IsBounds, IsGiven, Perhaps, said_or, kind_from, has_bounds, IsParam, IsParams, IsSignature}
use Rattle.expr_forms.specs.Looks.{◌>>=◌, mapped, first, sees, sees_key, behind}
use Rattle.expr_forms.specs.Reading.{closed}
use Rattle.expr_forms.specs.PartReading.{kind_at, name, bounds}
use Rattle.expr_forms.specs.HeaderReading.{mode_at, said_mode, tabled, said_table, said_scalar, said_kind, perhaps_bounds, same_bool, agreed, with_rest, param_of, param, params_from, params, bracketed_params, signature, name_at}
use Rattle.expr_forms.proofs.Cases.{bind_ok, chosen, none_is, some_is, first_is, rest_is, seen, seen_key, closed_is, mapped_is, Found}
use Rattle.expr_forms.proofs.PartSound.{name_is, bounds_sound}

-- ---- what may be missing

-- a keyword that says something, or nothing
module _ (A : Type 0) (One : List Token → A → Type 0) (word : Key → Option A) (one : (w : Key) (x : A) → word w ≡ Some x → One (t.Key w ∷ []) x) where
  worded : (w : Key) (ts : List Token) (o : Option A) → word w ≡ o → Found (Perhaps One) (t.Key w ∷ ts) o (behind (is_some o) (t.Key w ∷ ts))
  worded w ts None h = record { front = []; split = refl; reads = is.missing }
  worded w ts (Some x) h = record { front = t.Key w ∷ []; split = refl; reads = is.there (one w x h) }

pub given_sound : (ts : List Token) → Found (Perhaps IsGiven) ts (kind_at (first ts)) (behind (is_some (kind_at (first ts))) ts)
given_sound [] = record { front = []; split = refl; reads = is.missing }
given_sound (t.Key w ∷ ts) = worded Kind IsGiven kind_of (λ w x h. is.gives h) w ts (kind_of w) refl
given_sound (t.Named x ∷ ts) = record { front = []; split = refl; reads = is.missing }
given_sound (t.Number x ∷ ts) = record { front = []; split = refl; reads = is.missing }
given_sound (t.Literal x ∷ ts) = record { front = []; split = refl; reads = is.missing }
given_sound (t.Sign x ∷ ts) = record { front = []; split = refl; reads = is.missing }

pub name_at_sound : (ts : List Token) → Found (Perhaps IsName) ts (name_at (first ts)) (behind (is_some (name_at (first ts))) ts)
name_at_sound [] = record { front = []; split = refl; reads = is.missing }
name_at_sound (t.Named x ∷ ts) = record { front = t.Named x ∷ []; split = refl; reads = is.there is.name }
name_at_sound (t.Key w ∷ ts) = record { front = []; split = refl; reads = is.missing }
name_at_sound (t.Number x ∷ ts) = record { front = []; split = refl; reads = is.missing }
name_at_sound (t.Literal x ∷ ts) = record { front = []; split = refl; reads = is.missing }
name_at_sound (t.Sign x ∷ ts) = record { front = []; split = refl; reads = is.missing }

mode_word_sound : (ts : List Token) → Found (Perhaps IsMode) ts (mode_at (first ts)) (behind (is_some (mode_at (first ts))) ts)
mode_word_sound [] = record { front = []; split = refl; reads = is.missing }
mode_word_sound (t.Key w ∷ ts) = worded Mode IsMode mode_of (λ w x h. is.one_word h) w ts (mode_of w) refl
mode_word_sound (t.Named x ∷ ts) = record { front = []; split = refl; reads = is.missing }
mode_word_sound (t.Number x ∷ ts) = record { front = []; split = refl; reads = is.missing }
mode_word_sound (t.Literal x ∷ ts) = record { front = []; split = refl; reads = is.missing }
mode_word_sound (t.Sign x ∷ ts) = record { front = []; split = refl; reads = is.missing }

-- a reading that always gives something
abbrev FoundPair : {A : Type 0} → (List Token → A → Type 0) → List Token → A × List Token → Type 0
FoundPair One ts p = Found One ts p.0 p.1

said_mode_sound : (ts : List Token) → FoundPair (Perhaps IsMode) ts (said_mode ts)
unfolding said_mode
said_mode_sound ts =
    elim (sees_key k.Arg ts) as (λ b. sees_key k.Arg ts ≡ b → FoundPair (Perhaps IsMode) ts (if b then (if sees_key k.Res (drop 1 ts) then (Some modes.ArgRes, drop 1 (drop 1 ts)) else (Some modes.Arg, drop 1 ts)) else (mode_at (first ts), behind (is_some (mode_at (first ts))) ts))) [
      | true ↦ λ e. elim (sees_key k.Res (drop 1 ts)) as (λ b. sees_key k.Res (drop 1 ts) ≡ b → FoundPair (Perhaps IsMode) ts (if b then (Some modes.ArgRes, drop 1 (drop 1 ts)) else (Some modes.Arg, drop 1 ts))) [
        | true ↦ λ d. record {
          front = t.Key k.Arg ∷ t.Key k.Res ∷ [];
          split = seen_key k.Arg ts e ∙ ap (λ l. t.Key k.Arg ∷ l) (seen_key k.Res (drop 1 ts) d);
          reads = is.there is.two_words;
        }
        | false ↦ λ d. record { front = t.Key k.Arg ∷ []; split = seen_key k.Arg ts e; reads = is.there (is.one_word refl) }
      ] refl
      | false ↦ λ e. mode_word_sound ts
    ] refl

tabled_sound : (w : Key) (d : Kind) (ts : List Token) → kind_of w ≡ Some d → FoundPair (Perhaps IsKind) (t.Key w ∷ ts) (tabled d (sees_key k.Table ts) ts)
tabled_sound w d ts h =
    elim (sees_key k.Table ts) as (λ b. sees_key k.Table ts ≡ b → FoundPair (Perhaps IsKind) (t.Key w ∷ ts) (tabled d b ts)) [
      | true ↦ λ e. record { front = t.Key w ∷ t.Key k.Table ∷ []; split = ap (λ l. t.Key w ∷ l) (seen_key k.Table ts e); reads = is.there (is.table h) }
      | false ↦ λ e. record { front = t.Key w ∷ []; split = refl; reads = is.there (is.scalar h) }
    ] refl

table_word_sound : (w : Key) (ts : List Token) (o : Option Kind) → table_kind_of w ≡ o → FoundPair (Perhaps IsKind) (t.Key w ∷ ts) (said_table (t.Key w ∷ ts) o)
table_word_sound w ts None h = record { front = []; split = refl; reads = is.missing }
table_word_sound w ts (Some d) h = record { front = t.Key w ∷ []; split = refl; reads = is.there (is.table_word h) }

kind_word_sound : (w : Key) (ts : List Token) (o : Option Kind) → kind_of w ≡ o → FoundPair (Perhaps IsKind) (t.Key w ∷ ts) (said_scalar (t.Key w ∷ ts) o)
kind_word_sound w ts None h = table_word_sound w ts (table_kind_of w) refl
kind_word_sound w ts (Some d) h = tabled_sound w d ts h

said_kind_sound : (ts : List Token) → FoundPair (Perhaps IsKind) ts (said_kind ts)
unfolding said_kind
said_kind_sound [] = record { front = []; split = refl; reads = is.missing }
said_kind_sound (t.Key w ∷ ts) = kind_word_sound w ts (kind_of w) refl
said_kind_sound (t.Named x ∷ ts) = record { front = []; split = refl; reads = is.missing }
said_kind_sound (t.Number x ∷ ts) = record { front = []; split = refl; reads = is.missing }
said_kind_sound (t.Literal x ∷ ts) = record { front = []; split = refl; reads = is.missing }
said_kind_sound (t.Sign x ∷ ts) = record { front = []; split = refl; reads = is.missing }

perhaps_bounds_sound : (ts : List Token) (bs : Option Limits) (rest : List Token) → perhaps_bounds ts ≡ Some (bs, rest) → Found (Perhaps IsBounds) ts bs rest
unfolding perhaps_bounds
perhaps_bounds_sound ts bs rest h =
    ⊎_elim
    (λ (c : (sees s.OpenSquare ts ≡ true) × (mapped (λ l. Some l) (bounds (drop 1 ts)) ≡ Some (bs, rest))).
    let a = mapped_is (λ l. Some l) (bounds (drop 1 ts)) bs rest c.1 in
    let f = bounds_sound (drop 1 ts) a.0 rest a.1 in
    record { front = f.front; split = seen s.OpenSquare ts c.0 ∙ f.split; reads = subst (Perhaps IsBounds f.front) a.2 (is.there f.reads) })
    (λ (c : (sees s.OpenSquare ts ≡ false) × (Some (None, ts) ≡ Some (bs, rest))). record { front = []; split = rest_is c.1; reads = subst (Perhaps IsBounds []) (first_is c.1) is.missing })
    (chosen (sees s.OpenSquare ts) (mapped (λ l. Some l) (bounds (drop 1 ts))) (Some (None, ts)) (Some (bs, rest)) h)

-- ---- parameters

same_is : (a b : Bool) → same_bool a b ≡ true → a ≡ b
same_is true b h = sym h
same_is false true h = absurd (let none : ⊥ = cc in none)
same_is false false h = refl

-- what the parts of a parameter make of it
record Agreed (m : Mode) (x : List ℕ) (bs : Option Limits) (d : Option (Kind × Bool)) (p : Formal) : Type 0 where
  kind : Kind
  known : d ≡ Some (kind, has_bounds bs)
  made : record { mode = m; kind = kind; name = x; bounds = bs } ≡ p

agreed_is : (m : Mode) (x : List ℕ) (bs : Option Limits) (d : Option (Kind × Bool)) (p : Formal) → agreed m x bs d ≡ Some p → Agreed m x bs d p
agreed_is m x bs None p h = none_is h
agreed_is m x bs (Some d) p h =
    ⊎_elim
    (λ (c : (same_bool d.1 (has_bounds bs) ≡ true) × (Some (record { mode = m; kind = d.0; name = x; bounds = bs }) ≡ Some p)). record {
      kind = d.0;
      known = ap (λ b. Some (d.0, b)) (same_is d.1 (has_bounds bs) c.0);
      made = some_is c.1;
    })
    (λ (c : (same_bool d.1 (has_bounds bs) ≡ false) × (None ≡ Some p)). none_is c.1)
    (chosen (same_bool d.1 (has_bounds bs)) (Some (record { mode = m; kind = d.0; name = x; bounds = bs })) None (Some p) h)

with_rest_is : (ts : List Token) (o : Option Formal) (p : Formal) (rest : List Token) → with_rest ts o ≡ Some (p, rest) → (o ≡ Some p) × (ts ≡ rest)
with_rest_is ts None p rest h = none_is h
with_rest_is ts (Some q) p rest h = (ap (λ l. Some l) (first_is h), rest_is h)

-- the rest of a parameter behind its mode and its kind
record FoundRest (m : Mode) (d : Option (Kind × Bool)) (ts : List Token) (p : Formal) (rest : List Token) : Type 0 where
  name : List ℕ
  limits : Option Limits
  front : List Token
  split : ts ≡ t.Named name ∷ (front ++ rest)
  bounded : Perhaps IsBounds front limits
  agrees : Agreed m name limits d p

param_of_sound : (m : Mode) (d : Option (Kind × Bool)) (ts : List Token) (p : Formal) (rest : List Token) → param_of m d ts ≡ Some (p, rest) → FoundRest m d ts p rest
unfolding param_of
param_of_sound m d ts p rest h =
    let b = bind_ok (name ts) (λ x. perhaps_bounds x.1 >>= (λ bs. with_rest bs.1 (agreed m x.0 bs.0 d))) (p, rest) h in
    let c = bind_ok (perhaps_bounds b.0.1) (λ bs. with_rest bs.1 (agreed m b.0.0 bs.0 d)) (p, rest) b.2 in
    let f = perhaps_bounds_sound b.0.1 c.0.0 c.0.1 c.1 in
    let w = with_rest_is c.0.1 (agreed m b.0.0 c.0.0 d) p rest c.2 in
    record {
      name = b.0.0;
      limits = c.0.0;
      front = f.front;
      split = name_is ts b.0.0 b.0.1 b.1 ∙ ap (λ l. t.Named b.0.0 ∷ l) (f.split ∙ ap (λ l. f.front ++ l) w.1);
      bounded = f.reads;
      agrees = agreed_is m b.0.0 c.0.0 d p w.0;
    }

param_sound : (before : Mode) (above : Option (Kind × Bool)) (ts : List Token) (p : Formal) (rest : List Token) → param before above ts ≡ Some (p, rest) → Found (IsParam before above) ts p rest
unfolding param
param_sound before above ts p rest h =
    let a = said_mode_sound ts in
    let c = said_kind_sound (said_mode ts).1 in
    let f = param_of_sound (said_or before (said_mode ts).0) (kind_from above (said_kind (said_mode ts).1).0) (said_kind (said_mode ts).1).1 p rest h in
    let end = t.Named f.name ∷ f.front in
    record {
      front = a.front ++ (c.front ++ end);
      split = a.split ∙ ap (λ l. a.front ++ l) (c.split ∙ ap (λ l. c.front ++ l) f.split ∙ sym (append_assoc c.front end rest)) ∙ sym (append_assoc a.front (c.front ++ end) rest);
      reads = subst (IsParam before above (a.front ++ (c.front ++ end))) f.agrees.made (is.param a.reads c.reads f.bounded f.agrees.known);
    }

record FoundParams (before : Mode) (above : Option (Kind × Bool)) (ts : List Token) (found ps : List Formal) (rest : List Token) : Type 0 where
  front : List Token
  more : List Formal
  split : ts ≡ front ++ rest
  reads : IsParams before above front more
  items : ps ≡ found ++ more

params_from_sound : (n : ℕ) (before : Mode) (above : Option (Kind × Bool)) (found : List Formal) (ts : List Token) (ps : List Formal) (rest : List Token) → params_from n before above found ts ≡ Some (ps, rest) → FoundParams before above ts found ps rest
unfolding params_from
params_from_sound zero before above found ts ps rest h = none_is h
params_from_sound (suc n) before above found ts ps rest h =
    let b = bind_ok (param before above ts) (λ p. if sees s.Comma p.1 then params_from n p.0.mode (Some (p.0.kind, has_bounds p.0.bounds)) (found ++ p.0 ∷ []) (drop 1 p.1) else Some (found ++ p.0 ∷ [], p.1)) (ps, rest) h in
    let p = b.0.0 in
    let f = param_sound before above ts p b.0.1 b.1 in
    ⊎_elim
    (λ (c : (sees s.Comma b.0.1 ≡ true) × (params_from n p.mode (Some (p.kind, has_bounds p.bounds)) (found ++ p ∷ []) (drop 1 b.0.1) ≡ Some (ps, rest))).
    let r = params_from_sound n p.mode (Some (p.kind, has_bounds p.bounds)) (found ++ p ∷ []) (drop 1 b.0.1) ps rest c.1 in
    record {
      front = f.front ++ t.Sign s.Comma ∷ r.front;
      more = p ∷ r.more;
      split = f.split ∙ ap (λ l. f.front ++ l) (seen s.Comma b.0.1 c.0 ∙ ap (λ l. t.Sign s.Comma ∷ l) r.split) ∙ sym (append_assoc f.front (t.Sign s.Comma ∷ r.front) rest);
      reads = is.next_param f.reads r.reads;
      items = r.items ∙ append_assoc found (p ∷ []) r.more;
    })
    (λ (c : (sees s.Comma b.0.1 ≡ false) × (Some (found ++ p ∷ [], b.0.1) ≡ Some (ps, rest))). record {
      front = f.front;
      more = p ∷ [];
      split = f.split ∙ ap (λ l. f.front ++ l) (rest_is c.1);
      reads = is.last_param f.reads;
      items = sym (first_is c.1);
    })
    (chosen (sees s.Comma b.0.1) (params_from n p.mode (Some (p.kind, has_bounds p.bounds)) (found ++ p ∷ []) (drop 1 b.0.1)) (Some (found ++ p ∷ [], b.0.1)) (Some (ps, rest)) b.2)

bracketed_params_sound : (ts : List Token) (ps : List Formal) (rest : List Token) → bracketed_params ts ≡ Some (ps, rest) → Found IsSignature (t.Sign s.Open ∷ ts) ps rest
unfolding bracketed_params
bracketed_params_sound ts ps rest h =
    ⊎_elim
    (λ (c : (sees s.Close ts ≡ true) × (Some ([], drop 1 ts) ≡ Some (ps, rest))). record {
      front = t.Sign s.Open ∷ t.Sign s.Close ∷ [];
      split = ap (λ l. t.Sign s.Open ∷ l) (seen s.Close ts c.0 ∙ ap (λ l. t.Sign s.Close ∷ l) (rest_is c.1));
      reads = subst (IsSignature (t.Sign s.Open ∷ t.Sign s.Close ∷ [])) (first_is c.1) is.no_params;
    })
    (λ (c : (sees s.Close ts ≡ false) × (closed s.Close (params ts) ≡ Some (ps, rest))).
    let f = params_from_sound (length ts) modes.Arg None [] ts ps (t.Sign s.Close ∷ rest) (closed_is s.Close (params ts) ps rest c.1) in
    record {
      front = t.Sign s.Open ∷ (f.front ++ t.Sign s.Close ∷ []);
      split = ap (λ l. t.Sign s.Open ∷ l) (f.split ∙ sym (append_assoc f.front (t.Sign s.Close ∷ []) rest));
      reads = is.params (subst (IsParams modes.Arg None f.front) (sym f.items) f.reads);
    })
    (chosen (sees s.Close ts) (Some ([], drop 1 ts)) (closed s.Close (params ts)) (Some (ps, rest)) h)

pub signature_sound : (ts : List Token) (ps : List Formal) (rest : List Token) → signature ts ≡ Some (ps, rest) → Found IsSignature ts ps rest
unfolding signature
signature_sound ts ps rest h =
    ⊎_elim
    (λ (c : (sees s.Open ts ≡ true) × (bracketed_params (drop 1 ts) ≡ Some (ps, rest))). subst (λ l. Found IsSignature l ps rest) (sym (seen s.Open ts c.0)) (bracketed_params_sound (drop 1 ts) ps rest c.1))
    (λ (c : (sees s.Open ts ≡ false) × (Some ([], ts) ≡ Some (ps, rest))). record { front = []; split = rest_is c.1; reads = subst (IsSignature []) (first_is c.1) is.no_brackets })
    (chosen (sees s.Open ts) (bracketed_params (drop 1 ts)) (Some ([], ts)) (Some (ps, rest)) h)
