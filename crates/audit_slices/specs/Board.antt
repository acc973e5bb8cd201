-- What a clause says of alerts.
use Rattle.std.specs.Prelude.{◌≡◌, ◌<◌, ◌≤◌, ℕ, Bool, true, Option, IfSome, IfNone, OnSome}
use Rattle.std.specs.Borrow.{Bor}
use Rattle.boxcar.specs.Table.{Shows}
use Rattle.audit_slices.specs.declared.board.Alert.{Alert}
use Rattle.audit_slices.specs.declared.board.Alerts.{Alerts}
use Rattle.audit_slices.specs.declared.board.Board.{Board}
use Rattle.audit_slices.specs.declared.board.Posted.{Posted}

module _ {X : Type 0} where
  -- its report may be given to its entry, and raises an alert
  abbrev pub IsTrueAlert : (ℕ → X → Type 0) → (X → Bool) → Alert X → Type 0
  IsTrueAlert gives alerts a = gives a.entry a.report × (alerts a.report ≡ true)

  -- what the first may give the second may, and the same reports raise an alert
  pub record IsNamedBy (f : ℕ → X → Type 0) (p : X → Bool) (g : ℕ → X → Type 0) (q : X → Bool) : Type 0 where
    pub reports : (entry : ℕ) (report : X) → f entry report → g entry report
    pub alerts : (report : X) → p report ≡ q report

module _ {X N : Type 0} where
  -- the alert was posted on this board
  abbrev pub IsPostedOn : Board X N → Posted X N → Type 0
  IsPostedOn board posted = Shows board.alerts posted.at

  -- the alert that was posted
  abbrev pub posted_alert : Posted X N → Alert X
  posted_alert posted = posted.at.value

  -- they are the alerts of this board
  abbrev pub IsOver : Board X N → Alerts X N → Type 0
  IsOver board alerts = alerts.inner.vec.now ≡ board.alerts

  -- how many of its places they have gone through
  abbrev pub place_of : Alerts X N → ℕ
  place_of alerts = alerts.inner.index

  -- how many places they go through
  abbrev pub end_of : Alerts X N → ℕ
  end_of alerts = alerts.inner.end

  -- one step: an alert that is true, of a place further on, or none where all places were gone through
  pub record GivesAlert (gives : ℕ → X → Type 0) (alerts : X → Bool) (old : Alerts X N) (given : Option (Bor (Alert X))) (new : Alerts X N) : Type 0 where
    pub raised : IfSome given (λ a. IsTrueAlert gives alerts a.now)
    pub board : (board : Board X N) → IsOver board old → IsOver board new
    pub onward : OnSome given (place_of old < place_of new)
    pub end : end_of new ≡ end_of old
    pub all : IfNone given (end_of old ≤ place_of new)
