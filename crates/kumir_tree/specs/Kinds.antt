-- Which kinds are equal.
use Rattle.std.specs.Prelude.{Bool, true, false}
use Rattle.kumir_tree.specs.declared.kind.Kind.{Kind}
use Rattle.kumir_tree.specs.declared.kind.Kind.TheVariants.{Whole, Truth}

abbrev pub same_kind : Kind → Kind → Bool
same_kind Whole Whole = true
same_kind Whole Truth = false
same_kind Truth Whole = false
same_kind Truth Truth = true
