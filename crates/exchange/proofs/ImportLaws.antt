-- The ways of `store_item`, the loop that stores the elements of a file that was judged, and the ways of `take` and `import`.
-- Assumes nothing.
use mathlib.Core.Path.{◌≡◌, refl, sym, ap, ◌∙◌}
use mathlib.Core.List.{List, [], ◌∷◌}
use Prim.Native.Nat.{ℕ, ◌+◌, ◌*◌, ◌-◌, ◌<◌, ◌≤◌}
use native.Mathlib.Nat.{mul-le-mul_right}
use native.Mathlib.Omega.{arith}
use lib.ListN.{length}
use Rattle.std.specs.Prelude.{Some, None, Ok, Err}
use Rattle.numbers.specs.declared.refusals.Refusal.{Refusal}
use Rattle.numbers.specs.declared.refusals.Refusal.TheVariants.{BrokenImage}
use Rattle.numbers.specs.Over.{part}
use Rattle.numbers.proofs.OverLaws.{part_length}
use Rattle.image.specs.declared.header.Header.{Header}
use Rattle.image.specs.Elements.{set_recorded}
use Rattle.image.specs.Header.{header_of}
use Rattle.image.proofs.HeaderLaws.{sound, fields_are, keeps_of, broken_of}
use Rattle.packet_state.specs.declared.state.State.{State}
use Rattle.packet_state.specs.declared.state.Told.{Told}
use Rattle.packet_state.specs.States.{changed_state}
use Rattle.packet_parts.specs.Answers.{left, told}
use Rattle.tap.specs.declared.items.Item.{Item}
use Rattle.tap.specs.declared.items.Item.TheVariants.{Ends, Mark, Record, Cut}
use Rattle.tap.specs.declared.items.TapeRecord.{TapeRecord}
use Rattle.tap.specs.declared.judging.Found.{Found}
use Rattle.tap.specs.Files.{Element, TapeMark, Block, Reading, elements_in, reads}
use Rattle.tap.specs.Items.{item_at}
use Rattle.tap.specs.Judging.{found_from}
use Rattle.tap.specs.Taking.{Taken, element_in, place_after}
use Rattle.tap.proofs.ReadLaws.{Sits, item_sits, taken_whole, used_in, reads_first, reads_most, reads_used, found_holds, found_length, refuses_of}
use Rattle.exchange.specs.Importing.{lay_element, lay_elements, taken_into, imports_as, imports}
use Rattle.exchange.proofs.LayLaws.{element_laid}

-- ---- the ways of `store_item`

-- of an item that is taken, what is no record is a mark
taken_mark : (size : ℕ) (file : List ℕ) (at : ℕ) (x : Item) → Taken size x → Sits file at x → ((r : TapeRecord) → x ≡ Record r → ⊥)
    → (place_after x ≡ at + 4) × (element_in file x ≡ TapeMark) × (at + 4 ≤ length file)
taken_mark size file at (Ends used) t l o = absurd t
taken_mark size file at Cut t l o = absurd t
taken_mark size file at (Mark next) t l o = (l.0, refl, omega (arith, l))
taken_mark size file at (Record r) t l o = absurd (o r refl)

module _ (size : ℕ) (file : List ℕ) (at : ℕ) (taken : Taken size (item_at file at)) (x : Item) (read : x ≡ item_at file at) where
  pub mark_taken : ((r : TapeRecord) → x ≡ Record r → ⊥)
      → (place_after (item_at file at) ≡ at + 4) × (element_in file (item_at file at) ≡ TapeMark) × (at + 4 ≤ length file)
  mark_taken other = taken_mark size file at (item_at file at) taken (item_sits file at) (λ r e. other r (read ∙ e))

  pub record_taken : (r : TapeRecord) → x ≡ Record r
      → (place_after (item_at file at) ≡ r.next) × (element_in file (item_at file at) ≡ Block r.unreadable (part file r.from r.length))
      × (r.length ≡ size) × (r.from + r.length ≤ length file)
  record_taken r is =
      let here : item_at file at ≡ Record r = sym read ∙ is in
      let l : Sits file at (Record r) = rw here at (item_sits file at) in
      let q : r.length ≡ size = rw here at taken in
      rw here (refl, refl, q, l.0)

-- what the laying of a block asks
pub lay_room : (s : List ℕ) (h : Header) (i : ℕ) → header_of s ≡ Some h → i < h.capacity
    → (h.size ≤ 1024) × (i < 65535) × (h.kinds + i < h.blocks) × (h.blocks + (i + 1) * h.size ≤ length s)
lay_room s h i good l =
    let g = sound s h good in
    let m = mul-le-mul_right h.size l in
    (g.size_most, omega arith, omega arith, omega arith)

pub ruleset item_ways = (record_taken, part_length)

-- ---- the loop of `store_elements`

-- the elements that are left when i are stored and the file was read up to place `at`
abbrev ahead : Header → List ℕ → ℕ → ℕ → List Element
ahead h file i at = elements_in (reads h.size file (h.capacity - i) at)

pub record Storing (h : Header) (file s₀ s : List ℕ) (n i at : ℕ) : Type 0 where
  pub most : n ≤ h.capacity
  pub header : header_of s ≡ Some h
  pub kept : length s ≡ length s₀
  pub count : length (ahead h file i at) + i ≡ n
  pub whole : lay_elements h (ahead h file i at) i s ≡ lay_elements h (elements_in (reads h.size file h.capacity 0)) 0 s₀

pub store_start : (h : Header) (file s : List ℕ) (n : ℕ) → header_of s ≡ Some h → n ≡ length (elements_in (reads h.size file h.capacity 0))
    → Storing h file s s n 0 0
store_start h file s n g e =
    let y : h.capacity - 0 ≡ h.capacity = omega arith in
    record {
      most = omega (arith, reads_most h.size file h.capacity 0);
      header = g;
      kept = refl;
      count = rw y (omega arith);
      whole = rw y refl;
    }

module _ (h : Header) (file s₀ s : List ℕ) (n i at : ℕ) (g : Storing h file s₀ s n i at) where
  module _ (l : i < n) where
    abbrev item : Item
    item = item_at file at

    pub store-taken : Taken h.size item
    store-taken = (reads_first h.size file (h.capacity - i) at (omega (arith, g.count))).taken

    rest : ahead h file i at ≡ element_in file item ∷ ahead h file (i + 1) (place_after item)
    rest =
        let y : h.capacity - i - 1 ≡ h.capacity - (i + 1) = omega arith in
        rw y at (reads_first h.size file (h.capacity - i) at (omega (arith, g.count))).rest

    pub store-next : (next : ℕ) (s' : List ℕ) → next ≡ place_after item → s' ≡ lay_element h (element_in file item) i s → Storing h file s₀ s' n (i + 1) next
    unfolding lay_elements
    store-next next s' q e =
        let v = taken_whole h.size file at item store-taken (item_sits file at) in
        let o = element_laid s h g.header i (omega (arith, g.most)) (element_in file item) v in
        let c = rw rest at g.count in
        let w = rw rest at g.whole in
        record {
          most = g.most;
          header = rw e o.header;
          kept = rw e o.size ∙ g.kept;
          count = rw q (omega (arith, c));
          whole = rw (e, q) w;
        }

  pub store_done : i ≡ n → s ≡ lay_elements h (elements_in (reads h.size file h.capacity 0)) 0 s₀
  unfolding lay_elements
  store_done l = none (ahead h file i at) (omega (arith, g.count)) ∙ g.whole
    where
      none : (es : List Element) → length es ≤ 0 → s ≡ lay_elements h es i s
      none [] l = refl
      none (e ∷ es) l = absurd (omega arith)

pub ruleset store_ways = (store-taken, store_done)

-- ---- the ways of `import`

module _ (s : List ℕ) (st : State) (file : List ℕ) where
  pub import_broken : header_of s ≡ None → left st (Err BrokenImage) s file ≡ imports s st file
  unfolding imports
  import_broken e = rw (broken_of s e) refl

  module _ (h : Header) (good : header_of s ≡ Some h) where
    abbrev reading : Reading
    reading = reads h.size file h.capacity 0

    pub import-refused : (reason : Refusal) → Err reason ≡ found_from 0 reading → left st (Err reason) s file ≡ imports s st file
    unfolding imports imports_as
    import-refused reason e = rw (keeps_of s h good, fields_are s h good, refuses_of reading reason e) refl

    module _ (found : Found) (judged : Ok found ≡ found_from 0 reading) where
      pub elements-found : found.elements ≡ length (elements_in reading)
      elements-found = found_length reading found judged

      -- the bytes used are told in 32 bits
      pub used_most : found.used < 67959800
      used_most =
          let g = sound s h good in
          let m = mul-le-mul_right (h.size + 13) g.capacity_most in
          let z = ap used_in (found_holds reading found judged) in
          omega (arith, reads_used h.size file h.capacity 0, z)

      pub import-taken : (s' s'' : List ℕ) (t : Told) (after : State) → s' ≡ lay_elements h (elements_in reading) 0 s
          → s'' ≡ set_recorded s' found.elements → t ≡ told 0 found.elements found.used → after ≡ changed_state st
          → left st (Ok (record { answer = t; state = after })) s'' file ≡ imports s st file
      unfolding imports imports_as taken_into
      import-taken s' s'' t after e f a b =
          let z = found_holds reading found judged in
          rw (keeps_of s h good, fields_are s h good, z, ← elements-found, f, e, a, b) refl

pub ruleset import_ways = (import_broken, import-refused, elements-found, used_most)
