-- 02, A4: "only entries from the old position on are rewritten".
-- Assumes nothing.
use Rattle.std.specs.Prelude.{ℕ, ◌+◌, ◌*◌, ◌-◌, List, ◌++◌, length, replicate}
use Rattle.numbers.specs.Over.{over}
use Rattle.image.specs.declared.header.Header.{Header}
use Rattle.index.specs.Entries.{marks_from, no_filemark, entry_bytes}
use Rattle.index.specs.Spacing.{entries_below}

-- these filemarks become the entries from `first` on, and those after them, before `last`, FFh
abbrev pub entries_put : List ℕ → ℕ → ℕ → List ℕ → List ℕ
entries_put index first last marks = over index (4 * first) (entry_bytes (marks ++ replicate (last - (first + length marks)) no_filemark))

-- after a store from place p to the end, which left the image s: the header before it is h
unfoldable pub rewritten : List ℕ → Header → ℕ → ℕ → List ℕ → List ℕ
rewritten s h p end index =
    entries_put index (entries_below index p h.capacity) (entries_below index h.recorded h.capacity) (marks_from s h.kinds (end - p) p)
