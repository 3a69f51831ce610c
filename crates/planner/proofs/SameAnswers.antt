-- Two accepted logs with equal workers get the same answers from every call but packing; with the same form, they are packed alike too.
-- Assumes nothing.
use mathlib.Core.Path.{◌≡◌, ap}
use mathlib.Core.List.{List}
use Prim.Native.Nat.{ℕ}
use Rattle.event_log.specs.Layout.{workers_of, log_of}
use Rattle.event_log.specs.Model.{Log}
use Rattle.accept.specs.Refusal.{given, log_refusal}
use Rattle.restore_plan.specs.Calls.{plan_call}
use Rattle.planner.specs.Answers.{answers_to, SameAnswers, AnsweredAlike}

-- all that a call is given of them is equal
given_same : (s t : List ℕ) → log_refusal s ≡ 0 → log_refusal t ≡ 0 → workers_of s ≡ workers_of t → given s ≡ given t
given_same s t accepted accepted' same = rw (accepted, accepted', same)

pub same_answers : (s t : List ℕ) → SameAnswers s t
same_answers s t accepted accepted' same = ap answers_to (given_same s t accepted accepted' same)

pub answered_alike : (s t : List ℕ) → log_refusal s ≡ 0 → log_refusal t ≡ 0 → log_of s ≡ log_of t → AnsweredAlike s t
answered_alike s t accepted accepted' same =
    let workers : workers_of s ≡ workers_of t = ap (λ (log : Log). log.workers) same in
    let alike = given_same s t accepted accepted' workers in
    record { plans = ap plan_call alike; calls = ap answers_to alike; packs = rw (alike, same) }
