-- What is promised of plans, together: `plans`. The statements are specs/Promises.
use Rattle.plan_floor.specs.Promises.{PlanPromises}
use Rattle.plan_floor.proofs.Offering.{offers}
use Rattle.plan_floor.proofs.Answers.{books, marks, refused}
use Rattle.plan_floor.proofs.Written.{same_written}
use Rattle.plan_floor.proofs.History.{history}
use Rattle.plan_floor.proofs.AsPlan.{as_plan_calls}
use Rattle.plan_floor.proofs.Rounds.{by_rounds}
use Rattle.plan_floor.proofs.Soundness.{stays_sound, waiting_sound, plan_stays}
use Rattle.plan_floor.proofs.AsCalls.{as_calls}
use Rattle.plan_floor.proofs.Once.{once, rising}
use Rattle.plan_floor.proofs.Canisters.{canisters}
use Rattle.plan_floor.proofs.Ending.{ends, scheduled}

pub plans : PlanPromises
plans = record {
  offers = offers;
  books = books;
  marks = marks;
  refused = refused;
  same_written = same_written;
  history = history;
  once = once;
  plan_stays = plan_stays;
  as_plan_calls = as_plan_calls;
  by_rounds = by_rounds;
  stays_sound = stays_sound;
  waiting_sound = waiting_sound;
  as_calls = as_calls;
  rising = rising;
  canisters = canisters;
  ends = ends;
  scheduled = scheduled;
}
