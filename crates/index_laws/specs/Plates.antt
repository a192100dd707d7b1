-- 02, A4 worked out by hand, over 01's image with kinds 1 2 1 2: of U 4 the filemarks are at 1 and 3, of U 3 at 1 alone, since "Kinds at U and above mean
-- nothing."
-- Assumes nothing.
use Rattle.std.specs.Prelude.{ℕ, Bool, true, ◌&&◌, List, [], ◌∷◌, ◌++◌, replicate, set}
use Rattle.numbers.specs.Choice.{◌≡ᵇ◌}
use Rattle.numbers.specs.Same.{same}
use Rattle.packet_parts.specs.Replies.{sense_bytes}
use Rattle.packet_laws.specs.Plates.{plate_image, standing, sent, sense_of}
use Rattle.index.specs.Keeping.{Made, makes, Indexed, indexed_step}

abbrev pub tape : ℕ → List ℕ
tape u = plate_image 0 u (1 ∷ 2 ∷ 1 ∷ 2 ∷ [])

-- an entry: place p, which is one byte here; none
abbrev pub at : ℕ → List ℕ
at p = 0 ∷ 0 ∷ 0 ∷ p ∷ []

abbrev pub none : List ℕ
none = 0xff ∷ 0xff ∷ 0xff ∷ 0xff ∷ []

-- four entries
abbrev pub entries : List ℕ → List ℕ → List ℕ → List ℕ → List ℕ
entries a b c d = a ++ (b ++ (c ++ d))

-- ---- an index made

-- the image and the buffer; then what must come: the number, filemarks and bytes told, the buffer
pub record MakePlate : Type 0 where
  pub image : List ℕ
  pub buffer : List ℕ
  pub number : ℕ
  pub filemarks : ℕ
  pub bytes : ℕ
  pub given : List ℕ

infix 80 make◌into◌answers◌filemarks◌bytes◌gives◌
abbrev pub make◌into◌answers◌filemarks◌bytes◌gives◌ : List ℕ → List ℕ → ℕ → ℕ → ℕ → List ℕ → MakePlate
make image into buffer answers n filemarks f bytes b gives x =
    record { image = image; buffer = buffer; number = n; filemarks = f; bytes = b; given = x }

abbrev pub made_so : MakePlate → Made → Bool
made_so p x =
    (x.answer.number ≡ᵇ p.number) && (x.answer.status ≡ᵇ 0) && (x.answer.blocks ≡ᵇ p.filemarks) && (x.answer.bytes ≡ᵇ p.bytes)
    && same x.index p.given

abbrev pub all_made : List MakePlate → Bool
all_made [] = true
all_made (p ∷ ps) = made_so p (makes p.image p.buffer) && all_made ps

abbrev pub make_plates : List MakePlate
make_plates =
    make tape 4 into replicate 16 7 answers 0 filemarks 2 bytes 16 gives entries (at 1) (at 3) none none
    -- "bytes beyond stay"
    ∷ make tape 3 into replicate 18 7 answers 0 filemarks 1 bytes 16 gives (entries (at 1) none none none ++ (7 ∷ 7 ∷ []))
    ∷ make tape 0 into replicate 16 7 answers 0 filemarks 0 bytes 16 gives entries none none none none
    -- "9, index buffer shorter than four times the capacity"
    ∷ make tape 4 into replicate 15 7 answers 9 filemarks 0 bytes 0 gives replicate 15 7
    -- a broken image is told first
    ∷ make set (tape 4) 0 1 into replicate 15 7 answers 2 filemarks 0 bytes 0 gives replicate 15 7
    ∷ []

-- ---- packets beside an index

-- U, the index, P, the packet; then what must come: the number, P, the bytes that 03h would give, the index
pub record KeepPlate : Type 0 where
  pub recorded : ℕ
  pub index : List ℕ
  pub place : ℕ
  pub packet : List ℕ
  pub number : ℕ
  pub next : ℕ
  pub sense : List ℕ
  pub left : List ℕ

infix 80 U◌beside◌P◌send◌told◌P◌sense◌leaves◌
abbrev pub U◌beside◌P◌send◌told◌P◌sense◌leaves◌ : ℕ → List ℕ → ℕ → List ℕ → ℕ → ℕ → List ℕ → List ℕ → KeepPlate
U u beside index P p send packet told n P q sense x leaves left =
    record { recorded = u; index = index; place = p; packet = packet; number = n; next = q; sense = x; left = left }

abbrev pub kept_so : KeepPlate → Indexed → Bool
kept_so p x =
    (x.left.answer.number ≡ᵇ p.number) && (x.left.state.position ≡ᵇ p.next) && same (sense_bytes x.left.state.sense) p.sense
    && same x.index p.left

-- each plate of the table, with a data buffer of two blocks
abbrev pub all_kept : List KeepPlate → Bool
all_kept [] = true
all_kept (p ∷ ps) = kept_so p (indexed_step (tape p.recorded) p.index (standing p.place) p.packet (replicate 1024 9)) && all_kept ps

abbrev pub fine : List ℕ
fine = sense_of 0x70 0 0 0 0

-- SPACE over n filemarks, or back over as many as two's complement has; WRITE and WRITE FILEMARK of n; 03h; 12h
abbrev pub space_on : ℕ → List ℕ
space_on n = sent 0x11 1 0 0 n 0 0

abbrev pub space_back : ℕ → List ℕ
space_back low = sent 0x11 1 0xff 0xff low 0 0

abbrev pub write : ℕ → List ℕ
write n = sent 0x0a 1 0 0 n 0 0

abbrev pub mark : ℕ → List ℕ
mark n = sent 0x10 0 0 0 n 0 0

abbrev pub ask_sense : List ℕ
ask_sense = sent 0x03 0 0 0 20 0 0

abbrev pub ask_name : List ℕ
ask_name = sent 0x12 0 0 0 36 0 0

-- the index of U 4, and of U 3
abbrev pub four : List ℕ
four = entries (at 1) (at 3) none none

abbrev pub three : List ℕ
three = entries (at 1) none none none

abbrev pub keep_plates : List KeepPlate
keep_plates =
    -- SPACE: beyond the last on; on the beginning side back
    U 4 beside four P 0 send space_on 1 told 0 P 2 sense fine leaves four
    ∷ U 4 beside four P 0 send space_on 2 told 0 P 4 sense fine leaves four
    ∷ U 4 beside four P 2 send space_on 0 told 0 P 2 sense fine leaves four
    ∷ U 4 beside four P 4 send space_back 0xff told 0 P 3 sense fine leaves four
    ∷ U 4 beside four P 4 send space_back 0xfe told 0 P 1 sense fine leaves four
    -- past the end of data, 8/00/05, and past the beginning, 0/00/04 with EOM: the residue is 1
    ∷ U 4 beside four P 0 send space_on 3 told 0 P 4 sense (sense_of 0xf0 0x08 1 0 5) leaves four
    ∷ U 4 beside four P 3 send space_back 0xfe told 0 P 0 sense (sense_of 0xf0 0x40 1 0 4) leaves four
    -- a WRITE at 0 and one in the middle: the entries from there on are gone
    ∷ U 4 beside four P 0 send write 1 told 0 P 1 sense fine leaves entries none none none none
    ∷ U 4 beside four P 2 send write 1 told 0 P 3 sense fine leaves three
    -- WRITE FILEMARK at the end, over a filemark, and past C: D/00/02 with EOM, two stored
    ∷ U 3 beside three P 3 send mark 1 told 0 P 4 sense fine leaves four
    ∷ U 4 beside four P 1 send mark 2 told 0 P 3 sense fine leaves entries (at 1) (at 2) none none
    ∷ U 4 beside four P 2 send mark 3 told 0 P 4 sense (sense_of 0xf0 0x4d 1 0 2) leaves entries (at 1) (at 2) (at 3) none
    -- "bytes beyond stay"
    ∷ U 4 beside (four ++ (7 ∷ 8 ∷ [])) P 0 send write 1 told 0 P 1 sense fine leaves (entries none none none none ++ (7 ∷ 8 ∷ []))
    -- 9 and 10 for 03h and 12h too: a byte short; the last byte of the last entry; an entry of what lies above U
    ∷ U 4 beside replicate 15 0xff P 0 send ask_sense told 9 P 0 sense fine leaves replicate 15 0xff
    ∷ U 4 beside set four 15 0xfe P 0 send ask_name told 10 P 0 sense fine leaves set four 15 0xfe
    ∷ U 3 beside four P 0 send ask_sense told 10 P 0 sense fine leaves four
    -- 3 before 9
    ∷ U 3 beside replicate 15 0xff P 4 send ask_sense told 3 P 4 sense fine leaves replicate 15 0xff
    ∷ []
