-- The refusals of a packet, as one ordered table.
use Rattle.std.specs.Prelude.{ℕ, Bool, not, ◌&&◌, ◌||◌, List, [], ◌∷◌, ◌++◌, ltb, eqb, length}
use Rattle.octets.specs.Bytes.{byte_at}
use Rattle.octets.specs.Rows.{Row, row, first_code}
use Rattle.memory.specs.declared.Format.{Format}
use Rattle.memory.specs.Memory.{tables_wrong, is_wrong}
use Rattle.telecommand.specs.declared.Telecommand.{Telecommand}
use Rattle.telecommand.specs.declared.Telecommand.TheVariants.{Status, Dump, Allow, Mode, Clear, Select, Uplink, Foreign, Unheard}
use Rattle.telecommand.specs.Packet.{from_to, command_of, shape_rows, dump_range, uplink_range, pair_allowed}
use Rattle.unit.specs.declared.Unit.{Unit}
use Rattle.unit.specs.State.{is_none, out_of_range}

-- the column "checks in order"
unfoldable pub own_rows : Format → Telecommand → Unit → List ℕ → List Row
own_rows F Status u p = []
own_rows F Dump u p = row 7 (is_wrong (dump_range p)) ∷ []
own_rows F Allow u p = []
own_rows F Mode u p =
    row 4 (not u.control.allowed)
    ∷ row 9 (not (from_to 1 5 (byte_at p 1)))
    ∷ row 6 (ltb 3 (byte_at p 1))
    ∷ row 3 (not (pair_allowed u.control.mode (byte_at p 1)))
    ∷ row 3 (eqb (byte_at p 1) 3 && is_none u.control.selection)
    ∷ []
own_rows F Clear u p = []
own_rows F Select u p = row 10 (not (eqb u.control.mode 2)) ∷ row 7 (ltb F.last (byte_at p 1)) ∷ []
own_rows F Uplink u p = row 10 u.runner.running ∷ row 7 (is_wrong (uplink_range p)) ∷ []
own_rows F Foreign u p = []
own_rows F Unheard u p = []

-- "The caller lends both, 16,384 and 7,872 bytes exactly, and an output of at least 16,384."
unfoldable pub lent_wrong : Format → List ℕ → List ℕ → List ℕ → Bool
lent_wrong F seqs lists out = tables_wrong F seqs lists || ltb (length out) 16384

-- "16, 17, empty, 8": before the command is looked at
abbrev pub arrival_rows : Format → Unit → List ℕ → List ℕ → List ℕ → List ℕ → List Row
arrival_rows F u seqs lists out p =
    row 16 (lent_wrong F seqs lists out)
    ∷ row 17 (out_of_range F u)
    ∷ row 1 (eqb (length p) 0)
    ∷ row 8 (ltb 133 (length p))
    ∷ []

-- "Order: 16, 17, empty, 8, 5, 6 (BC1), 1, then the row's own."
unfoldable pub packet_rows : Format → Unit → List ℕ → List ℕ → List ℕ → List ℕ → List Row
packet_rows F u seqs lists out p = arrival_rows F u seqs lists out p ++ (shape_rows (command_of p) p ++ own_rows F (command_of p) u p)

-- the code that a packet is answered
unfoldable pub code_of : Format → Unit → List ℕ → List ℕ → List ℕ → List ℕ → ℕ
code_of F u seqs lists out p = first_code (packet_rows F u seqs lists out p)
