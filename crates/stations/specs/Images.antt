-- An image: 33 words of 32 bits that say what stands on a line.
-- Words 0 to 31 are the stations. Bits 31 and 30 are the kind: 0 vacant, and then the whole word is 0; 1 a module, with bits 29 and 28 zero,
-- I/O code in 27 to 24, ID code 23 to 20, inputs 19 to 16, outputs 15 to 12, parameter 11 to 8, mark 7, disturbance count 6 to 4, direction 3 to 0.
-- Word 32 says whether power is up. Reading and writing are inverse: docs/IMAGES.md and the racks' contracts say how. Bytes are four to a word, the high one first.
use Rattle.std.specs.Prelude.{ℕ, ◌+◌, ◌*◌, ◌/◌, ◌%◌, ◌^◌, Bool, true, false, cond, ◌&&◌, ◌||◌, List, [], ◌∷◌, ◌++◌, map, length, take, ◌==◌, slice_index}
use Rattle.std.specs.List.{range_with_len}
use Rattle.values.specs.Refusals.{Outcome, gives, refuses}
use Rattle.std.specs.List.{list_all}
use Rattle.stations.specs.Stations.{State, Place, vacant, occupied}

-- A station's word, read

abbrev pub state_in : ℕ → State
state_in w =
    record {
      io = w / 2 ^ 24 % 16;
      id = w / 2 ^ 20 % 16;
      inputs = w / 2 ^ 16 % 16;
      outputs = w / 2 ^ 12 % 16;
      parameter = w / 2 ^ 8 % 16;
      direction = w % 16;
      enabled = (w / 2 ^ 7 % 2 == 1);
      disturbance = w / 2 ^ 4 % 8;
    }

abbrev pub place_in : ℕ → Place
place_in w = cond (w / 2 ^ 30 == 1) (occupied (state_in w)) vacant

-- A station's word, written

abbrev pub mark_bit : Bool → ℕ
mark_bit true = 1
mark_bit false = 0

abbrev pub word_of : Place → ℕ
word_of vacant = 0
word_of (occupied x) =
    2 ^ 30 + x.io * 2 ^ 24 + x.id * 2 ^ 20 + x.inputs * 2 ^ 16 + x.outputs * 2 ^ 12 + x.parameter * 2 ^ 8
    + mark_bit x.enabled * 2 ^ 7 + x.disturbance * 2 ^ 4 + x.direction

abbrev pub word_of_power : Bool → ℕ
word_of_power true = 0xC0000001
word_of_power false = 0xC0000000

-- Which words are good

abbrev pub good_station : ℕ → Bool
good_station w = w == 0 || (w / 2 ^ 30 == 1 && w / 2 ^ 28 % 4 == 0)

abbrev pub good_power : ℕ → Bool
good_power w = w == word_of_power true || w == word_of_power false

abbrev pub good_image : List ℕ → Bool
good_image ws = length ws == 33 && (list_all good_station (take 32 ws) && good_power (slice_index ws 32))

-- testing words: anything but a good image is refused
abbrev pub tested : List ℕ → Outcome (Unit {0})
tested ws = cond (good_image ws) (gives tt) (refuses 0x8313)

-- What an image says, and the image that says it

abbrev pub powered_in : List ℕ → Bool
powered_in ws = slice_index ws 32 == word_of_power true

abbrev pub place_at : List ℕ → ℕ → Place
place_at ws a = place_in (slice_index ws a)

abbrev pub image_of : Bool → List Place → List ℕ
image_of power ps = map word_of ps ++ word_of_power power ∷ []

-- An image as 132 bytes, each word's high byte first

abbrev pub word_at : List ℕ → ℕ → ℕ
word_at bs k = slice_index bs (4 * k) * 2 ^ 24 + slice_index bs (4 * k + 1) * 2 ^ 16 + slice_index bs (4 * k + 2) * 2 ^ 8 + slice_index bs (4 * k + 3)

unfoldable pub words_of_bytes : List ℕ → List ℕ
words_of_bytes bs = map (word_at bs) (range_with_len 0 33)

abbrev pub image_from : List ℕ → Outcome (List ℕ)
image_from bs = cond (length bs == 132) (gives (words_of_bytes bs)) (refuses 0x8313)
