-- A command is refused exactly when a row of its table refuses it, with the code of the first row that holds: one law, and each
-- command's table under it; so code 7 tells of a run raster's line list, bad or without a mark. Assumes nothing.
use Prim.Native.Nat.{ℕ, ◌≤◌, ◌<◌}
use native.Mathlib.Omega.{arith}
use mathlib.Core.Path.{◌≡◌, refl, sym, ap, ◌∙◌}
use mathlib.Core.Bool.{Bool, true, cond, not, ◌&&◌, false≢true}
use mathlib.Core.List.{List, [], ◌∷◌, ◌++◌}
use mathlib.Core.Logic.{◌↔◌, ◌⊎◌, ⊎_elim, inl, inr}
use lib.Dec.{T, ltb, eqb}
use borrow.Author.Tests.{ltb-false, eqb-true, eq-eqb, ne_eqb}
use Rattle.octets.specs.Rows.{Row, row, first_code, NoneHolds, FirstBears, coded}
use Rattle.octets.proofs.Bools.{and_T, by-test}
use Rattle.octets.proofs.Laws.{none-holds, no_code, first-bears, bears-first}
use Rattle.sequence.specs.declared.Command.{Command}
use Rattle.sequence.specs.declared.Command.TheVariants.{RunRaster, Expose, LoopBack, CallSequence, Terminate, Delay, Nothing, Unknown, Unfit}
use Rattle.sequence.specs.Text.{command_at}
use Rattle.sequence.specs.Raster.{raster_at, flags_good, mark_missing}
use Rattle.sequence.specs.LineList.{ListCard, card_shown, marks_in}
use Rattle.runner.specs.declared.Opened.{Opened}
use Rattle.runner.specs.declared.Act.{Act}
use Rattle.runner.specs.declared.Act.TheVariants.{Refused, Opens, Exposes, Loops, Calls, Ends}
use Rattle.runner.specs.Judge.{open_elsewhere, repeat_begun, count_rows, path_rows, flag_rows, raster_rows, run_rows, expose_rows, loop_rows, close_rows, unless, judged, judge}
use Rattle.std.specs.Prelude.{Option, Some, None, Ok, Err}

-- an act is done exactly when no row holds, and refused with a code exactly when the first row that holds bears it
pub record Exactly (rs : List Row) (judgement act : Act) : Type 0 where
  pub obeyed : (judgement ≡ act) ↔ NoneHolds rs
  pub refused : (c : ℕ) → 0 < c → (judgement ≡ Refused c) ↔ FirstBears c rs

-- an act that is no refusal
abbrev Plain : Act → Type 0
Plain a = (c : ℕ) → a ≡ Refused c → ⊥

module _ (rs : List Row) (a : Act) (plain : Plain a) where
  done-code : (k : ℕ) → unless k a ≡ a → k ≡ 0
  done-code k e = by-test (eqb k 0) (eqb-true k 0) (λ f. absurd (plain k (sym (rw f at e))))

  refused-code : (c k : ℕ) → unless k a ≡ Refused c → k ≡ c
  refused-code c k e = by-test (eqb k 0) (λ t. absurd (plain c (rw t at e))) (λ f. let g = rw f at e in cc)

  pub exactly : T (coded rs) → Exactly rs (unless (first_code rs) a) a
  exactly t =
      record {
        obeyed = (λ e. none-holds rs t (done-code (first_code rs) e), λ n. ap (λ (k : ℕ). unless k a) (no_code rs n));
        refused =
            λ c h. (
              λ e. first-bears rs c h (refused-code c (first_code rs) e),
              λ f. ap (λ (k : ℕ). unless k a) (bears-first rs c f) ∙ ap (λ (b : Bool). cond b a (Refused c)) (ne_eqb c 0 (λ z. omega arith)),
            );
      }

pub loop-coded : (text : List ℕ) (p t : ℕ) (o : Option Opened) → T (coded (loop_rows text p t o))
unfolding loop_rows
loop-coded text p t None = tt
loop-coded text p t (Some o) = tt

module _ (cards : ℕ → ListCard) (text : List ℕ) (p : ℕ) where
  pub run-raster-exactly : (o : Option Opened) → Exactly (run_rows cards text p o) (judged cards text p o RunRaster) Opens
  unfolding judged run_rows raster_rows path_rows
  run-raster-exactly o = exactly (run_rows cards text p o) Opens (λ c e. cc) tt

  pub expose-exactly : (time : ℕ) (o : Opened) → Exactly (expose_rows text time (Some o)) (judged cards text p (Some o) (Expose time)) (Exposes o.place)
  unfolding judged expose_rows
  expose-exactly time o = exactly (expose_rows text time (Some o)) (Exposes o.place) (λ k e. cc) tt

  pub expose-shut : (time : ℕ) → judged cards text p None (Expose time) ≡ Refused 3
  unfolding judged expose_rows
  expose-shut time = refl

  pub loop-back-exactly : (t : ℕ) (o : Option Opened) → Exactly (loop_rows text p t o) (judged cards text p o (LoopBack t)) (Loops t)
  unfolding judged
  loop-back-exactly t o = exactly (loop_rows text p t o) (Loops t) (λ c e. cc) (loop-coded text p t o)

  pub call-exactly : (n : ℕ) (o : Option Opened) → Exactly (close_rows text p o) (judged cards text p o (CallSequence n)) (Calls n)
  unfolding judged close_rows
  call-exactly n o = exactly (close_rows text p o) (Calls n) (λ c e. cc) tt

  pub terminate-exactly : (o : Option Opened) → Exactly (close_rows text p o) (judged cards text p o Terminate) Ends
  unfolding judged close_rows
  terminate-exactly o = exactly (close_rows text p o) Ends (λ c e. cc) tt

-- ── code 7
-- no row bears a code; then it is not that of the first row that holds
abbrev pub without : ℕ → List Row → Bool
without c [] = true
without c (r ∷ rs) = not (eqb r.code c) && without c rs

pub nowhere : (c : ℕ) (rs : List Row) → T (without c rs) → FirstBears c rs → ⊥
nowhere c [] w f = f
nowhere c (r ∷ rs) w (inl (h, e)) = rw (eq-eqb r.code c e) at w
nowhere c (r ∷ rs) w (inr (h, f)) = nowhere c rs (and_T (not (eqb r.code c)) (without c rs) w).1 f

-- where none of the rows above a row bears its code, and it is that of the first row that holds, this row holds, or the first is below it
bearer : (c : ℕ) (xs ys : List Row) (t : Bool) → T (without c xs) → FirstBears c (xs ++ (row c t ∷ ys)) → NoneHolds xs × ((t ≡ true) ⊎ FirstBears c ys)
bearer c [] ys t w (inl (h, e)) = (tt, inl h)
bearer c [] ys t w (inr (h, f)) = (tt, inr f)
bearer c (r ∷ rs) ys t w (inl (h, e)) = absurd (rw (eq-eqb r.code c e) at w)
bearer c (r ∷ rs) ys t w (inr (h, f)) = let (n, g) = bearer c rs ys t (and_T (not (eqb r.code c)) (without c rs) w).1 f in ((h, n), g)

-- a line list is bad, or it is good and a mark that these flags need is missing
abbrev pub ListRefused : ListCard → ℕ → Type 0
ListRefused (Ok marks) science = mark_missing marks science ≡ true
ListRefused (Err bad) science = Unit {0}

list-refused : (card : ListCard) (science : ℕ) → (ltb 0 (card_shown card).number ≡ true) ⊎ (mark_missing (marks_in card) science ≡ true) → ListRefused card science
list-refused (Ok marks) science (inl e) = absurd (false≢true e)
list-refused (Ok marks) science (inr m) = m
list-refused (Err bad) science h = tt

module _ (cards : ℕ → ListCard) (text : List ℕ) (p : ℕ) where
  -- a run raster whose line list is refused
  abbrev pub RefusedFor : Command → Type 0
  RefusedFor k = let raster = raster_at text p in (k ≡ RunRaster) × (raster.list ≤ 47) × ListRefused (cards raster.list) raster.science

  not-seven : {rs : List Row} {judgement act : Act} → Exactly rs judgement act → T (without 7 rs) → judgement ≡ Refused 7 → {k : Command} → RefusedFor k
  not-seven {rs} x w e = absurd (nowhere 7 rs w ((x.refused 7 (omega arith)).0 e))

  seven-judged : (o : Option Opened) (k : Command) → judged cards text p o k ≡ Refused 7 → RefusedFor k
  unfolding judged run_rows raster_rows path_rows expose_rows loop_rows close_rows
  seven-judged o RunRaster e =
      let raster = raster_at text p in
      let card = cards raster.list in
      let path = path_rows raster (repeat_begun o) in
      let flags = row 3 (not (flags_good raster.science)) ∷ [] in
      let before = row 3 (open_elsewhere p o) ∷ (count_rows raster ++ (row 6 (ltb 47 raster.list) ∷ [])) in
      let (none, why) = bearer 7 before (path ++ flag_rows cards raster) (ltb 0 (card_shown card).number) tt (((run-raster-exactly cards text p o).refused 7 (omega arith)).0 e) in
      let why' = ⊎_elim inl (λ f. inr (⊎_elim (λ m. m) absurd (bearer 7 (path ++ flags) [] (mark_missing (marks_in card) raster.science) tt f).1)) why in
      (refl, ltb-false 47 _ none.1.1.1.1.1.0, list-refused card raster.science why')
  seven-judged None (Expose t) e = cc
  seven-judged (Some o) (Expose t) e = not-seven (expose-exactly cards text p t o) tt e
  seven-judged None (LoopBack t) e = cc
  seven-judged (Some o) (LoopBack t) e = not-seven (loop-back-exactly cards text p t (Some o)) tt e
  seven-judged o (CallSequence n) e = not-seven (call-exactly cards text p n o) tt e
  seven-judged o Terminate e = not-seven (terminate-exactly cards text p o) tt e
  seven-judged o (Delay t) e = cc
  seven-judged o Nothing e = cc
  seven-judged o Unknown e = cc
  seven-judged o Unfit e = cc

  -- only such a command is refused with 7
  pub seven : (o : Option Opened) → judge cards text p o ≡ Refused 7 → RefusedFor (command_at text p)
  unfolding judge
  seven o e = seven-judged o (command_at text p) e
