-- Where the rules of an expression hold, its form tells its kind.
use Rattle.std.proofs.Common.{◌≡◌, Bool, true, false, List, [], Option, Some, None}
use Rattle.kumir_tree.specs.declared.kind.Kind.{Kind}
use Rattle.kumir_tree.specs.Tree as t
use Rattle.kumir_tree.specs.Tree.{Tree}
use Rattle.kumir_tree.specs.Part.{Head}
use Rattle.kumir_names.specs.Callees.{Callee, Called, BuiltInCall, RobotCall, PenCall}
use Rattle.kumir_names.specs.Variables.{variable}
use Rattle.kumir_names.specs.declared.variable.Variable.{Variable}
use Rattle.type_check.specs.Kinds.{Among, Argument, kind_where, where_gives, answer_kind, called_kind, name_kind, named_kind, element_kind, variable_kind, call_kind, kind_of, form_kind}

where_kind : (b : Bool) (k j : Kind) → kind_where b k ≡ Some j → Some k ≡ Some j
where_kind true k j e = e
where_kind false k j e = absurd (let none : ⊥ = cc in none)

where_given : (b : Bool) (k : Option Kind) (j : Kind) → where_gives b k ≡ Some j → k ≡ Some j
where_given true k j e = e
where_given false k j e = absurd (let none : ⊥ = cc in none)

of_call : (found : Option (Callee Head)) (arguments : List Argument) (k : Kind) → answer_kind found arguments ≡ Some k → called_kind found ≡ Some k
of_call None arguments k e = e
of_call (Some (Called h)) arguments k e = where_given _ h.gives k e
of_call (Some (BuiltInCall b)) arguments k e = where_kind _ _ k e
of_call (Some (RobotCall c)) arguments k e = where_kind _ _ k e
of_call (Some (PenCall s)) arguments k e = e

of_name : (v : Option Variable) (found : Option (Callee Head)) (k : Kind) → name_kind v found ≡ Some k → named_kind v found ≡ Some k
of_name None found k e = of_call found [] k e
of_name (Some v) found k e = where_kind _ v.kind k e

of_element : (v : Option Variable) (indexes : List Argument) (k : Kind) → element_kind v indexes ≡ Some k → variable_kind v ≡ Some k
of_element None indexes k e = e
of_element (Some v) indexes k e = where_kind _ v.kind k e

of_brackets : (v : Option Variable) (found : Option (Callee Head)) (arguments : List Argument) (k : Kind) → call_kind v found arguments ≡ Some k → called_kind found ≡ Some k
of_brackets None found arguments k e = of_call found arguments k e
of_brackets (Some v) found arguments k e = absurd (let none : ⊥ = cc in none)

pub form_tells : (s : Among) (e : Tree) (k : Kind) → kind_of s e ≡ Some k → form_kind s e ≡ Some k
form_tells s (t.Number n) k h = h
form_tells s (t.Truth b) k h = h
form_tells s t.Answer k h = h
form_tells s (t.Named x) k h = of_name (variable s.names x) (s.find x) k h
form_tells s (t.Element x es) k h = of_element (variable s.names x) _ k h
form_tells s (t.Call f es) k h = of_brackets (variable s.names f) (s.find f) _ k h
form_tells s (t.Plus a) k h = where_kind _ _ k h
form_tells s (t.Minus a) k h = where_kind _ _ k h
form_tells s (t.Not a) k h = where_kind _ _ k h
form_tells s (t.Binary o a b) k h = where_kind _ _ k h
