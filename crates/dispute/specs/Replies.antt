-- What becomes of a served paper.
--   in_time        a day from the day served to 30 days after it, ends included
--   late           a later day
--   day_ground     the number by which a reply on this day is refused, if it is, where its time is kept or is not
--   reply_ground   the number by which a reply to a paper served on a day is refused, if it is
--   ServedStep    what the replies do with a served paper
-- Assumes nothing.
use Rattle.std.specs.Prelude.{◌≡◌, ℕ, ◌+◌, Bool, ◌&&◌, ℤ, Some, None, Option, nat_le, nat_lt}
use Rattle.dispute.specs.Limits.{is_day, reply_days}
use Rattle.dispute.specs.Paper.{Act, Answer, Paper, Reply, accept, lapse, referred, refused, reject, reply, resolution, resolved, served, taken}
use Rattle.dispute.specs.Refusal.{unless}

abbrev pub in_time : ℕ → ℕ → Bool
in_time since day = nat_le since day && nat_le day (since + reply_days)

abbrev pub late : ℕ → ℕ → Bool
late since day = nat_lt (since + reply_days) day

abbrev pub day_ground : ℕ → Bool → Option ℕ
day_ground day timely = unless (is_day day) 4 (unless timely 18 None)

abbrev pub reply_ground : ℕ → Reply → Option ℕ
reply_ground since (accept day) = day_ground day (in_time since day)
reply_ground since (lapse day) = day_ground day (late since day)
reply_ground since (reject day) = day_ground day (in_time since day)

pub data ServedStep : Paper → Act → Answer → Paper → Type 0 where
  accepted : {asset period since day : ℕ} {cents : ℤ}
      → reply_ground since (accept day) ≡ None
      → ServedStep (served asset period cents since) (reply (accept day)) (resolution asset cents) resolved
  lapsed : {asset period since day : ℕ} {cents : ℤ}
      → reply_ground since (lapse day) ≡ None
      → ServedStep (served asset period cents since) (reply (lapse day)) (resolution asset cents) resolved
  rejected : {asset period since day : ℕ} {cents : ℤ}
      → reply_ground since (reject day) ≡ None
      → ServedStep (served asset period cents since) (reply (reject day)) taken (referred asset period)
  reply_refused : {asset period since n : ℕ} {cents : ℤ} {r : Reply}
      → reply_ground since r ≡ Some n
      → ServedStep (served asset period cents since) (reply r) (refused n) (served asset period cents since)
