-- The codes of faults as numerals.
use Rattle.std.specs.Prelude.{◌≡◌, [], ◌∷◌}
use Rattle.kumir_tree.specs.declared.fault_codes.TheConstants.{BAD_CHARACTER, OPEN_LITERAL, NUMBER_TOO_LARGE, REAL, NOT_UNDERSTOOD, NESTED_TOO_DEEP, MISPLACED, NOT_CLOSED, DECLARED_TWICE, UNKNOWN_NAME, TYPES_DO_NOT_FIT, NAME_TAKEN, WITHOUT_NAME, UNKNOWN_PERFORMER, FAULT_CODES}

-- the numeral of each code, and all of them in rising order
pub record AreFaultCodes : Type 0 where
  pub bad_character : BAD_CHARACTER ≡ 101
  pub open_literal : OPEN_LITERAL ≡ 102
  pub number_too_large : NUMBER_TOO_LARGE ≡ 103
  pub real : REAL ≡ 104
  pub not_understood : NOT_UNDERSTOOD ≡ 201
  pub nested_too_deep : NESTED_TOO_DEEP ≡ 202
  pub misplaced : MISPLACED ≡ 301
  pub not_closed : NOT_CLOSED ≡ 302
  pub declared_twice : DECLARED_TWICE ≡ 401
  pub unknown_name : UNKNOWN_NAME ≡ 402
  pub types_do_not_fit : TYPES_DO_NOT_FIT ≡ 403
  pub name_taken : NAME_TAKEN ≡ 404
  pub without_name : WITHOUT_NAME ≡ 405
  pub unknown_performer : UNKNOWN_PERFORMER ≡ 407
  pub all : FAULT_CODES ≡ 101 ∷ 102 ∷ 103 ∷ 104 ∷ 201 ∷ 202 ∷ 301 ∷ 302 ∷ 401 ∷ 402 ∷ 403 ∷ 404 ∷ 405 ∷ 407 ∷ []
