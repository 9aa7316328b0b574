-- Demand 3: the unit keeps what the table check tells. Assumes nothing.
use Prim.Native.Nat.{ℕ, ◌≤◌}
use native.Mathlib.Omega.{arith}
use mathlib.Core.Path.{◌≡◌, refl, sym, ap, ◌∙◌, subst, subst₂}
use mathlib.Core.Bool.{true, true≢false}
use mathlib.Core.List.{List}
use mathlib.Core.Logic.{inl, inr}
use lib.ListN.{length}
use Rattle.memory.specs.declared.Format.{Format}
use Rattle.sequence.specs.Starts.{among}
use Rattle.sequence.specs.Env.{env_of}
use Rattle.runner.specs.declared.Runner.{Runner}
use Rattle.survey.specs.declared.Ending.TheVariants.{Returns}
use Rattle.survey.specs.Chain.{Told, check_of}
use Rattle.survey.specs.Report.{ending_shown}
use Rattle.unit.specs.Step.{Outcome}
use Rattle.promises.specs.Runs.{AtDoor, after_steps}
use Rattle.promises.specs.Positions.{NonePast}
use Rattle.promises.specs.Kept.{IsPassed}
use Rattle.promises.specs.Formats.{Fills}
use Rattle.promises.specs.Library.{ours}
use Rattle.promises.specs.Demand3.{World, Action, packet, after, after_all, outcomes, Reached, selecting, starting, AboutToEnter, NeverCalledBack, last_of, Calling, Chain, Lists, events_of, exposed_positions, Works, FirstThen, ComesBack, AbortsAt, RunsAsTold, KeepsPassed, KeepsFaulted, Demand3, Passed, Faulted, Again, Returning}
use Rattle.promises.proofs.Formats.{fair-in}
use Rattle.promises.proofs.Run.Events.{back-so, fault-so, passed-so}
use Rattle.promises.proofs.Chain.Chains.{chain_end, chain_in, check-is}
use Rattle.promises.proofs.Chain.Laps.{listed-passes}
use Rattle.promises.proofs.Chain.Names.{chain-lists}
use Rattle.promises.proofs.Chain.Unique.{comes-again}
use Rattle.promises.proofs.Packets.Actions.{steps_in, reached-all, steps-taken}
use Rattle.promises.proofs.Range.Steady.{steady, tables-right}
use Rattle.promises.proofs.Packets.Starts.{selects, starts}
use Rattle.promises.proofs.Packets.Between.{Over, Went, between, in_reach}
use Rattle.promises.proofs.Chain.AsTold.{as-told, aborts, returns-at}

module _ {F : Format} (full : Fills F) where
  -- ── the check, part by part
  module _ (n : ℕ) (s : World F) (r : Reached ours s) (h : n ≤ F.last) where
    abbrev chain : Told
    chain = chain_in (env_of F s.lists) s.seqs n

    check-chain : check_of F s.seqs s.lists n ≡ chain
    check-chain = check-is F s.seqs s.lists n (tables-right (steady full r)) h

    check-names : (ours.checks F s.seqs s.lists n).names ≡ chain.names
    check-names = ap (λ (t : Told). t.names) check-chain

    check-ending : (ours.checks F s.seqs s.lists n).ending ≡ chain.ending
    check-ending = ap (λ (t : Told). t.ending) check-chain

    check-steps : (ours.checks F s.seqs s.lists n).steps ≡ chain.steps
    check-steps = let e = ap (λ (t : Told). t.steps) check-chain in omega arith

    check-exposures : (ours.checks F s.seqs s.lists n).exposures ≡ chain.exposures
    check-exposures = let e = ap (λ (t : Told). t.exposures) check-chain in omega arith

    check-known : ours.checks F s.seqs s.lists n ≡ chain
    check-known = λ i. record { names = check-names i; ending = check-ending i; steps = check-steps i; exposures = check-exposures i }

  -- ── what is done to a unit that is about to enter sequence n
  went : (n : ℕ) (s : World F) → AboutToEnter ours n s → (acts : List Action) → NeverCalledBack ours acts s → Went s.seqs s.lists acts s
  went n s g acts x = between s.seqs s.lists acts s (steady full g.reached) g.auto x (inl (refl, refl))

  pub passed : Passed F ours
  passed n s g y acts x =
      let seen = (went n s g acts x).shows in
      subst₂ (λ (t : Told) (os : List Outcome). RunsAsTold F s.seqs t os) (sym (check-known n s g.reached g.known)) (sym seen)
      (as-told F s.lists (fair-in full) s.seqs n s.unit.runner.mirror s.unit.runner g.known g.door (subst IsPassed (check-ending n s g.reached g.known) (passed-so (ours.checks F s.seqs s.lists n).ending y)) (steps_in acts)
      (subst (λ (os : List Outcome). NonePast 2400 (exposed_positions (events_of os))) seen (in_reach acts s (steady full g.reached))))

  pub faulted : Faulted F ours
  faulted n s g code q p y =
      let (k, f) = aborts F s.lists (fair-in full) s.seqs n s.unit.runner.mirror s.unit.runner g.known g.door code q p _ (sym (check-ending n s g.reached g.known) ∙ fault-so y) in
      (k, λ acts x. subst (FirstThen k Works (AbortsAt code q p)) (sym (went n s g acts x).shows) (f (steps_in acts)))

  pub lists-so : (n : ℕ) (s : World F) → Reached ours s → n ≤ F.last → Lists F s.seqs s.lists n (ours.checks F s.seqs s.lists n)
  lists-so n s r h = subst (Lists F s.seqs s.lists n) (sym (check-known n s r h)) (chain-lists F s.lists s.seqs n h)

  pub demand3 : Demand3 F ours
  demand3 w r m n h out out' space space' time time' =
      let v = after ours (packet out time (selecting n)) w in
      let s = after ours (packet out' time' starting) v in
      let (code, selected, vs, vl) = selects full w r m n h out space time in
      let (code', enters, ss, sl) = starts full n v selected out' space' time' in (
        code,
        code',
        lists-so n w r h,
        subst₂ (λ (x y : List ℕ). KeepsPassed ours (ours.checks F x y n) s) (ss ∙ vs) (sl ∙ vl) (passed n s enters),
        subst₂ (λ (x y : List ℕ). KeepsFaulted ours (ours.checks F x y n) s) (ss ∙ vs) (sl ∙ vl) (faulted n s enters),
      )

  -- ── a chain that returns
  module _ (n : ℕ) (s : World F) (g : AboutToEnter ours n s) (y : ComesBack (ours.checks F s.seqs s.lists n).ending) where
    abbrev t : Told
    t = ours.checks F s.seqs s.lists n

    abbrev r : Runner
    r = s.unit.runner

    back : (chain_in (env_of F s.lists) s.seqs n).ending ≡ Returns
    back = sym (check-ending n s g.reached g.known) ∙ back-so y

    -- the sequence that comes next
    abbrev pub Next : ℕ → Type 0
    Next m = (m ≤ F.last) × (among m t.names ≡ true) × Calling F s.seqs (last_of 0 t.names) m
        × AtDoor m (chain_end (env_of F s.lists) s.seqs (chain_in (env_of F s.lists) s.seqs n).names r.mirror) (after_steps (env_of F s.lists) s.seqs (chain_in (env_of F s.lists) s.seqs n).steps r)

    pub next : (m : ℕ) × Next m
    next =
        let (u, known, listed, called, door) = returns-at F s.lists (fair-in full) s.seqs n r.mirror r g.known g.door back in
        let names = sym (check-names n s g.reached g.known) in
        (u, (known, subst (λ (ns : List ℕ). among u ns ≡ true) names listed, subst (λ (ns : List ℕ). Calling F s.seqs (last_of 0 ns) u) names called, door))

    pub again : (m : ℕ) → Next m → Again F ours s.seqs s.lists n m
    again m (known, listed, called, door) =
        let E = env_of F s.lists in
        let mine = lists-so n s g.reached g.known in
        let its = lists-so m s g.reached known in
        let well : IsPassed (ours.checks F s.seqs s.lists m).ending =
        subst IsPassed (sym (check-ending m s g.reached known))
        (listed-passes E s.seqs n g.known (subst IsPassed (sym back) tt) m (subst (λ (ns : List ℕ). among m ns ≡ true) (check-names n s g.reached g.known) listed)) in
        let (once, part, returns) =
        comes-again F s.seqs s.lists n m t.names (ours.checks F s.seqs s.lists m).names (ours.checks F s.seqs s.lists m).ending
        (subst (Chain F s.seqs s.lists t.names n t.names) (back-so y) mine.chain) mine.differ called listed its.chain its.differ well in
        record { called = called; once = once; part = part; returns = ap ending_shown returns }

    pub enters-next : (m : ℕ) → Next m → (acts : List Action) → NeverCalledBack ours acts s → length (outcomes ours acts s) ≡ t.steps
        → AboutToEnter ours m (after_all ours acts s) × ((after_all ours acts s).seqs ≡ s.seqs) × ((after_all ours acts s).lists ≡ s.lists)
    enters-next m (known, listed, called, door) acts x full =
        let E = env_of F s.lists in
        let w = went n s g acts x in
        let taken : steps_in acts ≡ (chain_in E s.seqs n).steps = sym (steps-taken ours acts s) ∙ full ∙ check-steps n s g.reached g.known in
        let at = subst (AtDoor m (chain_end E s.seqs (chain_in E s.seqs n).names r.mirror)) (sym (w.runner ∙ ap (λ (k : ℕ). after_steps E s.seqs k r) taken)) door in
        let (seqs, lists) = still-over at.running w.over in (
          record {
            reached = reached-all ours acts g.reached;
            auto = w.auto;
            door = record { running = at.running; entering = at.entering; sequence = at.sequence; place = at.place; raster = at.raster; mirror = refl };
            known = known;
          },
          seqs,
          lists,
        )
      where
        still-over : (after_all ours acts s).unit.runner.running ≡ true → Over s.seqs s.lists (after_all ours acts s)
            → ((after_all ours acts s).seqs ≡ s.seqs) × ((after_all ours acts s).lists ≡ s.lists)
        still-over e (inl same) = same
        still-over e (inr z) = absurd (true≢false (sym e ∙ z))

  pub returning : Returning F ours
  returning n s g y = let (m, k) = next n s g y in (m, again n s g y m k, enters-next n s g y m k)
