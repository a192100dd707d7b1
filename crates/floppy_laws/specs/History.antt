-- What may happen to an image after a block was written, as long as nothing is stored at its own place.
-- Assumes nothing.
use Rattle.std.specs.Prelude.{ℕ, ◌+◌, ◌≤◌, ◌<◌, List, ◌≡◌}
use Rattle.image.specs.declared.elements.Kind.{Kind}
use Rattle.opcodes.specs.declared.Command.TheVariants.{Write}
use Rattle.packet_laws.specs.Words.{blocks_of}
use Rattle.floppy_parts.specs.declared.tape.Floppy.{Floppy}
use Rattle.floppy_parts.specs.Requests.{floppy_request}
use Rattle.floppy.specs.Packet.{floppy_step}
use Rattle.floppy_laws.specs.Words.{place_of, IsDataAs, EveryReadGives}

-- this packet is a WRITE that stores a block at place i
pub record StoresAt (i : ℕ) (s : List ℕ) (f : Floppy) (packet buf : List ℕ) : Type 0 where
  pub a_write : (floppy_request packet).command ≡ Write
  pub from : place_of f ≤ i
  pub upto : i < place_of f + blocks_of (floppy_step s f packet buf)

-- from the image s and the record f, by any packets with any buffers, none of which stores at place i
pub data Later (i : ℕ) (s : List ℕ) (f : Floppy) : List ℕ → Floppy → Type 0 where
  at_once : Later i s f s f
  -- one more packet
  asked : {s' : List ℕ} {f' : Floppy} (packet buf : List ℕ) → Later i s f s' f' → (StoresAt i s' f' packet buf → ⊥)
      → Later i s f (floppy_step s' f' packet buf).image (floppy_step s' f' packet buf).state
  -- the record is replaced: by a cartridge change, by a fresh record, or by what packets to other cartridges left
  replaced : {s' : List ℕ} {f' : Floppy} (f'' : Floppy) → Later i s f s' f' → Later i s f s' f''

-- element i keeps this kind and these bytes through every such history, and every READ that moves it gives the bytes
abbrev pub ReadsBackAs : Kind → ℕ → List ℕ → List ℕ → Floppy → Type 0
ReadsBackAs kind i bytes s f = (s' : List ℕ) (f' : Floppy) → Later i s f s' f' → IsDataAs kind s' i bytes × EveryReadGives s' f' i bytes
