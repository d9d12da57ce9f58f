-- A line has no more tokens than characters, and no more characters than bytes.
use Rattle.std.proofs.Common.{◌≡◌, ℕ, ◌+◌, ◌-◌, ◌<◌, ◌≤◌, Bool, List, [], ◌∷◌, length, drop, Option, arith, length-append, length-drop, ap, false}
use Rattle.std.specs.Str.{encode_utf8_all}
use Rattle.std.proofs.lemmas.Str.{length-le-encodes}
use Rattle.kumir_tree.specs.declared.token.Token.{Token}
use Rattle.kumir_tree.specs.declared.token.Token.TheVariants as token
use Rattle.kumir_tree.specs.declared.token.Spanned.{Spanned}
use Rattle.kumir_lexer.specs.declared.cutting.LexFault.{LexFault}
use Rattle.kumir_lexer.specs.Cutting.{Cut, Cuts, is_name}
use Rattle.kumir_lexer.specs.Joined.{joined, joined_two, joined_before}
use Rattle.kumir_lexer.proofs.Longest.{stands_some}

cuts_fewer : (named : Bool) (at : ℕ) (line : List ℕ) (ts : List Spanned) (fault : Option LexFault) → at ≤ length line → Cuts named at line ts fault → at + length ts ≤ length line
cuts_fewer named at line [] fault h c = omega arith
cuts_fewer named at line (t ∷ ts) fault h c =
    let stands = c.1.longest.stands in
    let some : 1 ≤ t.to - t.from = stands_some named c.1.class (drop t.from line) (t.to - t.from) stands in
    let fits : t.to - t.from ≤ length (drop t.from line) = stands.0 in
    let inside : t.to ≤ length line = omega (arith, length-drop t.from line, c.0.within, c.1.ordered) in
    omega (arith, cuts_fewer (is_name t.token) t.to line ts fault inside c.2, c.0.behind, c.1.ordered)

two_most : (a b : Token) (t u : Spanned) → length (joined_two a b t u) ≤ 2
two_most (token.Named x) (token.Named y) t u = omega arith
two_most a b t u = omega arith

joined_fewer : (ts : List Spanned) → length (joined ts) ≤ length ts
joined_fewer [] = omega arith
joined_fewer (t ∷ ts) =
    let go : (us : List Spanned) → length us ≤ length ts → length (joined_before t us) ≤ length ts + 1 = elim [
      | [] ↦ λ h. omega arith
      | ◌∷◌ u us ↦ λ h. omega (arith, two_most t.token u.token t u, length-append (joined_two t.token u.token t u) us)
    ] in
    omega (arith, go (joined ts) (joined_fewer ts))

pub cut_fewer : (line text : List ℕ) (tokens : List Spanned) (fault : Option LexFault) → length (encode_utf8_all line) < 4294967295 → text ≡ line → Cut text tokens fault → length tokens < 4294967295
cut_fewer line text tokens fault h same c =
    omega (arith, ap length c.2, joined_fewer c.0, cuts_fewer false 0 text c.0 fault (omega arith) c.1, ap length same, length-le-encodes line)
