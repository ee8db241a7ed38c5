-- Every life of a filed paper keeps the law, shown stage by stage from the last. Assumes nothing.
use Rattle.std.proofs.Common.{◌≡◌, ℕ, ◌+◌, ◌<◌, ◌≤◌, false, List, [], ◌∷◌, ℤ, None, refl, arith}
use Rattle.std.specs.List.{AllByRecursion}
use Rattle.std.proofs.lemmas.Bool.Decides.{nat_tests}
use Rattle.dispute.specs.Filing.{filed_withdrawn, offer_refused, offered}
use Rattle.dispute.specs.Life.{Due, Entry, Lawful, Life, Settled, ◌answered◌, by_acceptance, by_determination, by_lapse, ended, of_filed, of_referred, of_served, resolutions, settled_once, settling, stood, then, unsettled}
use Rattle.dispute.specs.Limits.{reply_days}
use Rattle.dispute.specs.Paper.{Paper, accept, determine, filed, lapse, offer, referred, reject, reply, resolution, resolved, served, taken, withdrawn}
use Rattle.dispute.specs.Referral.{determine_refused, determined, referred_withdrawn}
use Rattle.dispute.specs.Replies.{accepted, lapsed, rejected, reply_ground, reply_refused}

in_reply_time : (since day : ℕ) → reply_ground since (accept day) ≡ None → (since ≤ day) × (day ≤ since + reply_days)
in_reply_time since day free = grind (arith, nat_tests)

past_reply_time : (since day : ℕ) → reply_ground since (lapse day) ≡ None → since + reply_days < day
past_reply_time since day free = grind (arith, nat_tests)

after_withdrawal : {log : List Entry} {q : Paper} → Life withdrawn log q → log ≡ []
after_withdrawal ended = refl
after_withdrawal (then (of_filed s) life) = elim s [ ]
after_withdrawal (then (of_served s) life) = elim s [ ]
after_withdrawal (then (of_referred s) life) = elim s [ ]

after_resolution : {log : List Entry} {q : Paper} → Life resolved log q → log ≡ []
after_resolution ended = refl
after_resolution (then (of_filed s) life) = elim s [ ]
after_resolution (then (of_served s) life) = elim s [ ]
after_resolution (then (of_referred s) life) = elim s [ ]

abbrev Quiet : List Entry → Type 0
Quiet log = AllByRecursion (λ e. settling e ≡ false) log

-- what stood is quiet and there is no resolution, or there is one of this asset, whose cents have the form
data Outcome (asset : ℕ) (Form : ℤ → List Entry → Type 0) (log : List Entry) : List (ℕ × ℤ) → Type 0 where
  none : Quiet log → Outcome asset Form log []
  one : (cents : ℤ) → Form cents log → Outcome asset Form log ((asset, cents) ∷ [])

-- what stood earlier, put in front
behind : {asset : ℕ} {F G : ℤ → List Entry → Type 0} {e : Entry} {log : List Entry} {rs : List (ℕ × ℤ)}
    → settling e ≡ false → ((cents : ℤ) → F cents log → G cents (e ∷ log)) → Outcome asset F log rs → Outcome asset G (e ∷ log) rs
behind quiet turn (none rest) = none (quiet, rest)
behind quiet turn (one cents form) = one cents (turn cents form)

data ReferredForm (asset : ℕ) (cents : ℤ) : List Entry → Type 0 where
  determination : ReferredForm asset cents (determine cents answered resolution asset cents ∷ [])

from_referred : {asset period : ℕ} {log : List Entry} {q : Paper} → Life (referred asset period) log q → Outcome asset (ReferredForm asset) (stood log) (resolutions log)
from_referred ended = none tt
from_referred (then (of_filed s) life) = elim s [ ]
from_referred (then (of_served s) life) = elim s [ ]
from_referred (then (of_referred (determined free)) life) = rw (after_resolution life) (one _ determination)
from_referred (then (of_referred (determine_refused ground)) life) = from_referred life
from_referred (then (of_referred referred_withdrawn) life) = rw (after_withdrawal life) (none (refl, tt))

data ServedForm (asset : ℕ) (sum : ℤ) (since : ℕ) : ℤ → List Entry → Type 0 where
  acceptance : {day : ℕ} → since ≤ day → day ≤ since + reply_days → ServedForm asset sum since sum (reply (accept day) answered resolution asset sum ∷ [])
  lapsing : {day : ℕ} → since + reply_days < day → ServedForm asset sum since sum (reply (lapse day) answered resolution asset sum ∷ [])
  rejection : {day : ℕ} {cents : ℤ} → since ≤ day → day ≤ since + reply_days → ServedForm asset sum since cents (reply (reject day) answered taken ∷ determine cents answered resolution asset cents ∷ [])

after_rejection : {asset since day : ℕ} {sum : ℤ} {log : List Entry}
    → since ≤ day → day ≤ since + reply_days → (cents : ℤ) → ReferredForm asset cents log → ServedForm asset sum since cents (reply (reject day) answered taken ∷ log)
after_rejection from to cents determination = rejection from to

from_served : {asset period since : ℕ} {sum : ℤ} {log : List Entry} {q : Paper} → Life (served asset period sum since) log q → Outcome asset (ServedForm asset sum since) (stood log) (resolutions log)
from_served ended = none tt
from_served (then (of_filed s) life) = elim s [ ]
from_served (then (of_referred s) life) = elim s [ ]
from_served {since} (then (of_served (accepted {day = day} free)) life) =
    let time = in_reply_time since day free in
    rw (after_resolution life) (one _ (acceptance time.0 time.1))
from_served {since} (then (of_served (lapsed {day = day} free)) life) =
    rw (after_resolution life) (one _ (lapsing (past_reply_time since day free)))
from_served {since} (then (of_served (rejected {day = day} free)) life) =
    let time = in_reply_time since day free in
    behind refl (after_rejection time.0 time.1) (from_referred life)
from_served (then (of_served (reply_refused ground)) life) = from_served life

after_offer : {asset since : ℕ} {sum : ℤ} {log : List Entry} → (cents : ℤ) → ServedForm asset sum since cents log → Due asset cents (offer sum since answered taken ∷ log)
after_offer cents (acceptance from to) = by_acceptance from to
after_offer cents (lapsing past) = by_lapse past
after_offer cents (rejection from to) = by_determination from to

from_filed : {asset period : ℕ} {log : List Entry} {q : Paper} → Life (filed asset period) log q → Outcome asset (Due asset) (stood log) (resolutions log)
from_filed ended = none tt
from_filed (then (of_served s) life) = elim s [ ]
from_filed (then (of_referred s) life) = elim s [ ]
from_filed (then (of_filed (offered free)) life) = behind refl after_offer (from_served life)
from_filed (then (of_filed (offer_refused ground)) life) = from_filed life
from_filed (then (of_filed filed_withdrawn) life) = rw (after_withdrawal life) (none (refl, tt))

settled : {asset : ℕ} (log : List Entry) {rs : List (ℕ × ℤ)} → resolutions log ≡ rs → Outcome asset (Due asset) (stood log) rs → Settled asset log
settled log e (none quiet) = unsettled e quiet
settled log e (one cents due) = settled_once cents e due

pub lawful : (asset period : ℕ) → Lawful asset (filed asset period)
lawful asset period log q life = settled log refl (from_filed life)
