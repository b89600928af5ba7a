-- What is logged of a call: seven words of what it came to, seven of what waits and of the lists, two for each address, and the line's image.
-- A reader compares them with the table of the 111 words in docs/COMPARE.md, row by row.
use Rattle.std.specs.Prelude.{ℕ, ◌+◌, ◌*◌, ◌^◌, min, Bool, true, false, List, [], ◌∷◌, ◌++◌, length}
use Rattle.telegrams.specs.Requests.{Asking, nibble, silence, disturbed, write_parameter}
use Rattle.records.specs.Rows.{Row}
use Rattle.records.specs.declared.record.Mode.{Mode}
use Rattle.records.specs.declared.record.Mode.TheVariants.{Configuration, Protected}
use Rattle.orders.specs.Orders.{Ending, replied, inactive, ending_number}
use Rattle.control.specs.Cycles.{Master}
use Rattle.control.specs.declared.control.Phase.{Phase}
use Rattle.control.specs.declared.control.Phase.TheVariants.{Offline, Detection, Activation, Normal}
use Rattle.promise.specs.Outcomes.{Came, Shown, done, refused, ran, collected, inputs, lists, projected, lists_of}

-- Numbers

abbrev pub bit : Bool → ℕ
bit true = 1
bit false = 0

-- a count in one word
abbrev pub count_word : ℕ → ℕ
count_word n = min n 0xFFFFFFFF

-- a list of addresses in one word: bit a for address a
abbrev pub list_word : List Bool → ℕ
list_word [] = 0
list_word (b ∷ bs) = bit b + 2 * list_word bs

abbrev pub phase_number : Phase → ℕ
phase_number Offline = 0
phase_number Detection = 1
phase_number Activation = 2
phase_number Normal = 3

abbrev pub mode_number : Mode → ℕ
mode_number Configuration = 0
mode_number Protected = 1

-- LDS, LAS, LPS and the flags

abbrev pub flags : Shown → ℕ
flags r =
    bit r.config_ok + bit r.address_zero * 2 + bit r.configuration_active * 4 + bit r.normal_operation_active * 8 + bit r.power_fail * 16
    + bit r.offline * 32

abbrev pub list_words : Shown → List ℕ
list_words r = list_word r.lds ∷ list_word r.las ∷ list_word r.lps ∷ flags r ∷ []

-- What a call came to

-- an order: 0 for one that writes a parameter and 1 for a reset, the address, and the value, which is 0 for a reset

abbrev pub order_kind : Asking → ℕ
order_kind (write_parameter n) = 0
order_kind _ = 1

abbrev pub order_value : Asking → ℕ
order_value (write_parameter n) = n
order_value _ = 0

-- how it ended: 0 and the nibble, or why no nibble came and the number that the controller is given

abbrev pub ending_kind : Ending → ℕ
ending_kind (replied (nibble n)) = 0
ending_kind inactive = 1
ending_kind (replied silence) = 2
ending_kind (replied disturbed) = 3

abbrev pub ending_value : Ending → ℕ
ending_value (replied (nibble n)) = n
ending_value inactive = ending_number inactive
ending_value (replied silence) = ending_number (replied silence)
ending_value (replied disturbed) = ending_number (replied disturbed)

abbrev pub outcome_words : Came → List ℕ
outcome_words done = 0 ∷ 0 ∷ 0 ∷ 0 ∷ 0 ∷ 0 ∷ 0 ∷ []
outcome_words (refused n cause) = n ∷ 0 ∷ 0 ∷ 0 ∷ 0 ∷ 0 ∷ 0 ∷ []
outcome_words (ran phase requests) = 1 ∷ phase_number phase ∷ requests ∷ 0 ∷ 0 ∷ 0 ∷ 0 ∷ []
outcome_words (collected x) =
    2 ∷ order_kind x.order.asking ∷ x.order.to ∷ order_value x.order.asking ∷ ending_kind x.how ∷ ending_value x.how ∷ 0 ∷ []
outcome_words (inputs n) = 3 ∷ n ∷ 0 ∷ 0 ∷ 0 ∷ 0 ∷ 0 ∷ []
outcome_words (lists r) = 4 ∷ list_word r.lds ∷ list_word r.las ∷ list_word r.lps ∷ flags r ∷ 0 ∷ 0 ∷ []
outcome_words (projected n) = 5 ∷ count_word n ∷ 0 ∷ 0 ∷ 0 ∷ 0 ∷ 0 ∷ []

-- What the call left of the master

-- orders that wait, answers uncollected, the mode, and the lists as a reading of them would give them
abbrev pub status_words : Master → List ℕ
status_words m = count_word (length m.orders) ∷ count_word (length m.answers) ∷ mode_number m.control.mode ∷ list_words (lists_of m.control)

-- the nibbles of a row in one word, CDI first
abbrev pub row_word : Row → ℕ
row_word r =
    r.cdi.io * 2 ^ 28 + r.cdi.id * 2 ^ 24 + r.pcd.io * 2 ^ 20 + r.pcd.id * 2 ^ 16 + r.pi * 2 ^ 12 + r.pp * 2 ^ 8 + r.idi * 2 ^ 4 + r.odi

abbrev pub row_words : List Row → List ℕ
row_words [] = []
row_words (r ∷ rs) = row_word r ∷ r.misses ∷ row_words rs

-- All of it: the call came to y, and left master m and a line with image ws
abbrev pub logged : Came → Master → List ℕ → List ℕ
logged y m ws = outcome_words y ++ status_words m ++ row_words m.control.rows ++ ws
