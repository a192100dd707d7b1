-- 02, A4: "SPACE over filemarks through the index gives the same answer, sense and position as without it.": its place and its count are taken from the
-- entries alone.
-- Assumes nothing.
use Rattle.std.specs.Prelude.{ℕ, zero, suc, ◌+◌, ◌*◌, ◌-◌, ◌≤◌, ◌<◌, List, if◌then◌else◌}
use Rattle.numbers.specs.Choice.{◌≡ᵇ◌, ◌<ᵇ◌, ◌≤ᵇ◌}
use Rattle.numbers.specs.Counts.{count_at}
use Rattle.image.specs.declared.header.Header.{Header}
use Rattle.transfer.specs.declared.Moved.{Moved}
use Rattle.transfer.specs.declared.Stop.TheVariants.{Full, AtEnd, AtBeginning}
use Rattle.transfer.specs.Moving.{halts}
use Rattle.stream_parts.specs.Requests.{is_back, magnitude}

-- entry j, "four bytes for each"
abbrev pub entry_at : List ℕ → ℕ → ℕ
entry_at index j = count_at index (4 * j) 4

-- of the first n entries, those below place p stand before the others: what halving needs of "ascending"
abbrev pub BelowFirst : List ℕ → ℕ → ℕ → Type 0
BelowFirst index p n = (i j : ℕ) → i ≤ j → j < n → entry_at index j < p → entry_at index i < p

-- the first n entries are below place p
abbrev pub AllBelow : List ℕ → ℕ → ℕ → Type 0
AllBelow index n p = (i : ℕ) → i < n → entry_at index i < p

-- how many of the first n entries are below place p: the filemarks before it
unfoldable pub entries_below : List ℕ → ℕ → ℕ → ℕ
entries_below index p zero = 0
entries_below index p (suc n) = (if entry_at index n <ᵇ p then 1 else 0) + entries_below index p n

-- n filemarks on from place p, with `before` of the `all` entries before it: 01: "ending beyond the last"; "End of data"
unfoldable pub on_by_entries : List ℕ → ℕ → ℕ → ℕ → ℕ → ℕ → Moved
on_by_entries index before all end n p =
    if n ≡ᵇ 0 then halts p 0 Full else
    if n ≤ᵇ all - before then halts (entry_at index (before + n - 1) + 1) 0 Full else
    halts end (n - (all - before)) AtEnd

-- n filemarks back: 01: "on the beginning side when going back"; "beginning"
unfoldable pub back_by_entries : List ℕ → ℕ → ℕ → ℕ → Moved
back_by_entries index before n p =
    if n ≡ᵇ 0 then halts p 0 Full else
    if n ≤ᵇ before then halts (entry_at index (before - n)) 0 Full else
    halts 0 (n - before) AtBeginning

-- SPACE over so many filemarks from place p, on, or back where the count is negative
unfoldable pub run_by_entries : List ℕ → Header → ℕ → ℕ → Moved
run_by_entries index h p count =
    if is_back count then back_by_entries index (entries_below index p h.capacity) (magnitude count) p else
    on_by_entries index (entries_below index p h.capacity) (entries_below index h.recorded h.capacity) h.recorded (magnitude count) p
