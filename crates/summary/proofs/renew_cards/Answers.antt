-- One card more is worked out where it is named.
use Prim.Native.Nat.{ℕ, ◌+◌, ◌*◌, ◌≤◌}
use native.Mathlib.Omega.{arith}
use mathlib.Core.Path.{◌≡◌, ap, ◌∙◌}
use mathlib.Core.Bool.{Bool, true, false}
use mathlib.Core.List.{List}
use mathlib.Core.Logic.{◌⊎◌, inl, inr}
use denote.Ref.{Bor}
use lib.ListN.{length, length-take, length-drop}
use Rattle.std.specs.Fn.{Shared, FnReturns}
use Rattle.memory.specs.declared.Format.{Format}
use Rattle.memory.specs.Memory.{format_of, written}
use Rattle.sequence.specs.Env.{cards_kept}
use Rattle.summary.specs.Summary.{seq_card, lines_at, card_in}
use Rattle.summary.specs.Held.{Tests, Renews}
use Rattle.summary.proofs.Writing.{seq-long, renewed_step}
use Rattle.summary.proofs.renew_cards.Goals as goal
use Rattle.summary.proofs.renew_cards.Goals.{then-named, else-named, else-loop-n-test, then-loop-n-test+else-n-last}

-- the test of the card as it stands is that of the card as it was
module _ {C : Type 0} (G : Shared C (Bor (List ℕ) × Unit {0}) Bool) (f : C) (F : Format) (seqs lines cards : List ℕ) (first n : ℕ) (s : List ℕ)
    (so-far : (test : List ℕ → Bool) → Tests G f test → Renews F seqs lines (λ k. test (card_in cards k)) first n cards s)
    (low : first ≤ n) (high : n ≤ F.last) (sized : length cards ≡ lines_at F) where
  step : (card : Bor (List ℕ)) → card.now ≡ card_in s n → (named : Bool) → FnReturns G f (card, tt) named → (s' : List ℕ)
      → ((named ≡ true) × ((d : List ℕ) × (d ≡ seq_card F seqs (cards_kept lines) n) × (s' ≡ written s (n * 32) d))) ⊎ ((named ≡ false) × (s' ≡ s))
      → (test : List ℕ → Bool) → Tests G f test → Renews F seqs lines (λ k. test (card_in cards k)) first (n + 1) cards s'
  step card is named met s' h test t =
      let r = so-far test t in
      let long : length (card_in cards n) ≡ 32 = simp (length-take, length-drop) (omega arith) in
      let told = t.tells (card_in cards n) named long record { shown = card; shows = is ∙ r.rest n (inr (omega arith)); says = met } in
      renewed_step 32 (seq_card F seqs (cards_kept lines)) (λ k. test (card_in cards k)) first cards n s r low s' named told (seq-long F seqs (cards_kept lines) n) (omega arith) (put h)
    where
      put : ((named ≡ true) × ((d : List ℕ) × (d ≡ seq_card F seqs (cards_kept lines) n) × (s' ≡ written s (n * 32) d))) ⊎ ((named ≡ false) × (s' ≡ s))
          → ((named ≡ true) × (s' ≡ written s (n * 32) (seq_card F seqs (cards_kept lines) n))) ⊎ ((named ≡ false) × (s' ≡ s))
      put (inl (e, (d, is-card, w))) = inl (e, w ∙ ap (written s (n * 32)) is-card)
      put (inr h) = inr h

pub loop-n-preserved : goal.loop-n-preserved
loop-n-preserved g c =
    let a = c.args in
    let l = c.loop-n in
    let F = format_of a.kind in
    step g.F.Fn a.named F a.seqs.now a.lines.now a.cards.now a.first l.n l.cards l.invariant l.auto.n (omega (arith, c.requires.among)) c.requires.sized
    c.card_at.result c.card_at.ensures c.named.result record { met = c.named.ensures } c.if-named.cards
    (elim c.if-named.branch [
      | then-named w ↦ inl (w.if-named.true, (_, w.seq_card-card.ensures, w.cards-is ∙ w.write.ensures))
      | else-named w ↦ inr (w.if-named.false, w.cards-is)
    ])

pub returns : goal.returns
returns g c =
    let a = c.args in
    let l = c.loop-n in
    let F = format_of a.kind in
    elim c.loop-n-test.branch [
      | else-loop-n-test w ↦ absurd (omega (arith, c.requires.among))
      | then-loop-n-test+else-n-last w ↦
          let e : l.n ≡ a.last = omega arith in
          rw (← e, w.cards-is)
          (step g.F.Fn a.named F a.seqs.now a.lines.now a.cards.now a.first l.n l.cards l.invariant l.auto.n (omega (arith, c.requires.among)) c.requires.sized
          w.card_at.result w.card_at.ensures w.named.result record { met = w.named.ensures } _
          (elim w.if-named.branch [
            | then-named w' ↦ inl (w'.if-named.true, (_, w'.seq_card-card.ensures, w'.cards-is ∙ w'.write.ensures))
            | else-named w' ↦ inr (w'.if-named.false, w'.cards-is)
          ]))
    ]
