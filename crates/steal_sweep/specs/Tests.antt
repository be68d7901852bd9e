-- A test that answers by the position alone, on every fit local.
use Rattle.std.specs.Prelude.{◌≡◌, ℕ, ◌<◌, Bool, true, ◌&&◌}

module _ {T L : Type 0} where
  -- the local is fit, and fits this test
  abbrev pub fit_for : (T → L → Bool) → (L → Bool) → T → L → Bool
  fit_for fits fit test l = fits test l && fit l

  -- at each position below total the test may be called on every fit local
  abbrev pub MayBeCalled : (T → L → ℕ → Bool) → T → (L → Bool) → ℕ → Type 0
  MayBeCalled may test fit total = (p : ℕ) (l : L) → p < total → fit l ≡ true → may test l p ≡ true

  -- a call there leaves a fit local fit
  abbrev pub LeavesFit : (T → L → ℕ → Bool → L → Type 0) → T → (L → Bool) → ℕ → Type 0
  LeavesFit gives test fit total = (p : ℕ) (l l' : L) (r : Bool) → p < total → fit l ≡ true → gives test l p r l' → fit l' ≡ true

  -- and answers the position's truth value
  abbrev pub AnswersBy : (T → L → ℕ → Bool → L → Type 0) → T → (L → Bool) → ℕ → (ℕ → Bool) → Type 0
  AnswersBy gives test fit total truth = (p : ℕ) (l l' : L) (r : Bool) → p < total → fit l ≡ true → gives test l p r l' → r ≡ truth p
