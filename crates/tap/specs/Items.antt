-- 02, A7: "a little-endian length of four bytes before and after each record, zero for a tape mark, FFFFFFFFh for end of medium."
-- Assumes nothing.
use Rattle.std.specs.Prelude.{ℕ, ◌+◌, ◌-◌, ◌%◌, ◌^◌, Bool, List, length, if◌then◌else◌}
use Rattle.numbers.specs.Choice.{◌≡ᵇ◌, ◌<ᵇ◌, ◌≤ᵇ◌}
use Rattle.numbers.specs.Words.{word_at}
use Rattle.tap.specs.declared.items.Item.{Item}
use Rattle.tap.specs.declared.items.Item.TheVariants.{Ends, Mark, Record, Cut}

abbrev pub tape_mark : ℕ
tape_mark = 0

abbrev pub end_mark : ℕ
end_mark = 2 ^ 32 - 1

-- "an unreadable one has the high bit of its length set"
abbrev pub high_bit : ℕ
high_bit = 2 ^ 31

abbrev pub length_in : ℕ → ℕ
length_in w = w % high_bit

abbrev pub is_unreadable : ℕ → Bool
is_unreadable w = high_bit ≤ᵇ w

-- "An odd record has SIMH's pad byte.": so many bytes stand between the two words of a record
abbrev pub padded : ℕ → ℕ
padded n = n + n % 2

-- the record whose first word w stands at place `at`; Cut where "lengths disagree or are cut": fewer bytes are left than the record, its pad byte and its
-- second word need, or the second word differs
unfoldable pub record_at : List ℕ → ℕ → ℕ → Item
record_at file at w =
    if length file <ᵇ at + padded (length_in w) + 8 then Cut else
    if word_at file (at + padded (length_in w) + 4) ≡ᵇ w then
    Record (record { from = at + 4; length = length_in w; unreadable = is_unreadable w; next = at + padded (length_in w) + 8 })
    else Cut

-- what stands at place `at`: the reading "ends at the end mark or the end of the file"
unfoldable pub item_at : List ℕ → ℕ → Item
item_at file at =
    if length file ≤ᵇ at then Ends at else
    if length file <ᵇ at + 4 then Cut else
    if word_at file at ≡ᵇ tape_mark then Mark (at + 4) else
    if word_at file at ≡ᵇ end_mark then Ends (at + 4) else
    record_at file at (word_at file at)
