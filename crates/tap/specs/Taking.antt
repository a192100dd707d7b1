-- An item that is taken: the element that it is, and the place after it.
-- Assumes nothing.
use Rattle.std.specs.Prelude.{ℕ, List, ◌≡◌}
use Rattle.tap.specs.declared.items.Item.{Item}
use Rattle.tap.specs.declared.items.Item.TheVariants.{Ends, Mark, Record, Cut}
use Rattle.tap.specs.Files.{Element, TapeMark, record_in}

-- "Import takes only records of B bytes", and tape marks
abbrev pub Taken : ℕ → Item → Type 0
Taken size (Ends used) = ⊥
Taken size Cut = ⊥
Taken size (Mark next) = Unit {0}
Taken size (Record r) = r.length ≡ size

-- what is no record is a mark, of an item that is taken
abbrev pub element_in : List ℕ → Item → Element
element_in file (Ends used) = TapeMark
element_in file Cut = TapeMark
element_in file (Mark next) = TapeMark
element_in file (Record r) = record_in file r

abbrev pub place_after : Item → ℕ
place_after (Ends used) = used
place_after Cut = 0
place_after (Mark next) = next
place_after (Record r) = r.next
