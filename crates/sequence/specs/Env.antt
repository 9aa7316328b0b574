-- What a text is read in: the format of the sequence table, and what is known of each line list.
use Rattle.std.specs.Prelude.{ℕ, ◌*◌, List, take, drop}
use Rattle.memory.specs.declared.Format.{Format}
use Rattle.memory.specs.Memory.{entry_of, list_of}
use Rattle.sequence.specs.declared.Lent.{Lent}
use Rattle.sequence.specs.declared.Lent.TheVariants.{Lists, Cards}
use Rattle.sequence.specs.LineList.{ListCard, list_card, card_read}

pub record Env : Type 0 where
  pub format : Format
  pub cards : ℕ → ListCard

-- the card of each line list of a table
abbrev pub cards_of : List ℕ → ℕ → ListCard
cards_of lists n = list_card (list_of lists n)

-- and that in four bytes of a table of cards
abbrev pub cards_kept : List ℕ → ℕ → ListCard
cards_kept kept n = card_read (take 4 (drop (n * 4) kept))

-- either, by what is lent
abbrev pub cards_lent : Lent → List ℕ → ℕ → ListCard
cards_lent Lists lent n = cards_of lent n
cards_lent Cards lent n = cards_kept lent n

abbrev pub env_of : Format → List ℕ → Env
env_of F lists = record { format = F; cards = cards_of lists }

abbrev pub env_lent : Format → Lent → List ℕ → Env
env_lent F lent bytes = record { format = F; cards = cards_lent lent bytes }

-- sequence n's own bytes
abbrev pub text_of : Env → List ℕ → ℕ → List ℕ
text_of E seqs n = entry_of E.format seqs n
