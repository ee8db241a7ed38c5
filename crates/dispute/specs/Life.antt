-- The law of a paper's life, over what was done with it and what was answered.
--   Step            a step of a filed, a served or a referred paper: the same that the calls ensure
--   Entry           an act and what it was answered
--   Life p log q    the acts of the log, in their order, taken or refused, led from the paper p to the paper q
--   resolutions     the asset and the cents of each resolution that was yielded
--   stood           the log without what was refused
--   settling        acceptance, lapse and determination are the acts that settle
--   Due a c stood   what stood makes c cents due to the asset a: the sum offered, if it was accepted from the day served
--                   to thirty days after it, or lapsed later; or the sum determined, if the offer was rejected in that time
--   Settled a log   nothing settled and no resolution was yielded; or just one was, of the asset a and the cents due
--   Lawful a p      so is every life of the paper p
-- Assumes nothing.
use Rattle.std.specs.Prelude.{◌≡◌, ℕ, ◌+◌, ◌<◌, ◌≤◌, Bool, true, false, List, [], ◌∷◌, ℤ}
use Rattle.std.specs.List.{AllByRecursion}
use Rattle.dispute.specs.Filing.{FiledStep}
use Rattle.dispute.specs.Limits.{reply_days}
use Rattle.dispute.specs.Paper.{Act, Answer, Paper, accept, determine, lapse, offer, refused, reject, reply, resolution, taken, withdraw}
use Rattle.dispute.specs.Referral.{ReferredStep}
use Rattle.dispute.specs.Replies.{ServedStep}

infix 80 ◌answered◌
pub data Step (p : Paper) (act : Act) (answer : Answer) (q : Paper) : Type 0 where
  of_filed : FiledStep p act answer q → Step p act answer q
  of_served : ServedStep p act answer q → Step p act answer q
  of_referred : ReferredStep p act answer q → Step p act answer q

pub data Entry : Type 0 where
  ◌answered◌ : Act → Answer → Entry

pub data Life : Paper → List Entry → Paper → Type 0 where
  ended : {p : Paper} → Life p [] p
  then : {p q r : Paper} {act : Act} {answer : Answer} {log : List Entry}
      → Step p act answer q
      → Life q log r
      → Life p (act answered answer ∷ log) r

abbrev pub resolutions : List Entry → List (ℕ × ℤ)
resolutions [] = []
resolutions (act answered taken ∷ log) = resolutions log
resolutions (act answered resolution asset cents ∷ log) = (asset, cents) ∷ resolutions log
resolutions (act answered refused n ∷ log) = resolutions log

abbrev pub stood : List Entry → List Entry
stood [] = []
stood (act answered taken ∷ log) = act answered taken ∷ stood log
stood (act answered resolution asset cents ∷ log) = act answered resolution asset cents ∷ stood log
stood (act answered refused n ∷ log) = stood log

abbrev pub settling : Entry → Bool
settling (offer cents day answered a) = false
settling (reply (accept day) answered a) = true
settling (reply (lapse day) answered a) = true
settling (reply (reject day) answered a) = false
settling (determine cents answered a) = true
settling (withdraw answered a) = false

pub data Due (asset : ℕ) (cents : ℤ) : List Entry → Type 0 where
  by_acceptance : {since day : ℕ}
      → since ≤ day → day ≤ since + reply_days
      → Due asset cents (offer cents since answered taken ∷ reply (accept day) answered resolution asset cents ∷ [])
  by_lapse : {since day : ℕ}
      → since + reply_days < day
      → Due asset cents (offer cents since answered taken ∷ reply (lapse day) answered resolution asset cents ∷ [])
  by_determination : {since day : ℕ} {sum : ℤ}
      → since ≤ day → day ≤ since + reply_days
      → Due asset cents (offer sum since answered taken ∷ reply (reject day) answered taken ∷ determine cents answered resolution asset cents ∷ [])

pub data Settled (asset : ℕ) (log : List Entry) : Type 0 where
  unsettled : resolutions log ≡ [] → AllByRecursion (λ e. settling e ≡ false) (stood log) → Settled asset log
  settled_once : (cents : ℤ) → resolutions log ≡ (asset, cents) ∷ [] → Due asset cents (stood log) → Settled asset log

abbrev pub Lawful : ℕ → Paper → Type 0
Lawful asset p = (log : List Entry) (q : Paper) → Life p log q → Settled asset log
