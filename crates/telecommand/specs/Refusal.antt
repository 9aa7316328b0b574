-- Why a packet is refused, and the code that says so.
use Rattle.std.specs.Prelude.{ℕ, Result, Ok, Err}
use Rattle.telecommand.specs.declared.Refusal.{Refusal}
use Rattle.telecommand.specs.declared.Refusal.TheVariants.{WrongLength, PairNotAllowed, NotYetAllowed, OtherSubsystem, NotInTable, WrongRange, TooLong, NoSuchMode, WrongMode, WrongSize, OutOfRange}

-- the columns "given exactly when" and "code"
abbrev pub refusal_code : Refusal → ℕ
refusal_code WrongLength = 1
refusal_code PairNotAllowed = 3
refusal_code NotYetAllowed = 4
refusal_code OtherSubsystem = 5
refusal_code NotInTable = 6
refusal_code WrongRange = 7
refusal_code TooLong = 8
refusal_code NoSuchMode = 9
refusal_code WrongMode = 10
refusal_code WrongSize = 16
refusal_code OutOfRange = 17

-- the code of what was tested: 0 where nothing refuses
abbrev pub result_code : {A : Type 0} → Result A Refusal → ℕ
result_code (Ok x) = 0
result_code (Err r) = refusal_code r
