-- The numbers that a refused call returns, and what a call comes to.
-- The numbers are those of the product's table of returns (docs/REFUSALS.md); a reader compares the two, row by row.
use Rattle.std.specs.Prelude.{ℕ, Bool, true, false, Some, None, Option, Ok, Err, Result}
use Rattle.values.specs.declared.refusal.Cause.{Cause}
use Rattle.values.specs.declared.refusal.Cause.TheVariants.{TooWide, StartBit, EndBit, Parity, NoRequest}
use Rattle.values.specs.declared.refusal.Refusal.{Refusal}
use Rattle.values.specs.declared.refusal.Refusal.TheVariants.{BadAddress, BadValue, WrongPhase, NotActive, QueueFull, AddressZeroDetected, NoAnswer, BadImage, BadTelegram}

abbrev pub cause_number : Cause → ℕ
cause_number TooWide = 1
cause_number StartBit = 2
cause_number EndBit = 3
cause_number Parity = 4
cause_number NoRequest = 5

abbrev pub numbered : Refusal → ℕ
numbered BadAddress = 0x8381
numbered BadValue = 0x8310
numbered WrongPhase = 0x8384
numbered NotActive = 0x8382
numbered QueueFull = 0x8311
numbered AddressZeroDetected = 0x8385
numbered NoAnswer = 0x8312
numbered BadImage = 0x8313
numbered (BadTelegram c) = 0x8314

-- the cause of a refused telegram; any other refusal has none
abbrev pub cause_of : Refusal → Option Cause
cause_of BadAddress = None
cause_of BadValue = None
cause_of WrongPhase = None
cause_of NotActive = None
cause_of QueueFull = None
cause_of AddressZeroDetected = None
cause_of NoAnswer = None
cause_of BadImage = None
cause_of (BadTelegram c) = Some c

-- the number of a cause, which is 0 where there is none
abbrev pub cause_or_0 : Option Cause → ℕ
cause_or_0 None = 0
cause_or_0 (Some c) = cause_number c

abbrev pub caused : Refusal → ℕ
caused e = cause_or_0 (cause_of e)

-- What a call comes to: it gives something, or refuses with a number and a cause
pub data Outcome (A : Type 0) : Type 0 where
  gives : A → Outcome A
  refuses_for : ℕ → ℕ → Outcome A

-- a refusal that has no cause
abbrev pub refuses : {A : Type 0} → ℕ → Outcome A
refuses n = refuses_for n 0

-- a call's result by what it gives, seen through f, or by its number
abbrev pub outcome : {A B : Type 0} → (A → B) → Result A Refusal → Outcome B
outcome f (Ok x) = gives (f x)
outcome f (Err e) = refuses_for (numbered e) (caused e)

abbrev pub accepts : {A : Type 0} → Outcome A → Bool
accepts (gives x) = true
accepts (refuses_for n c) = false
