use Rattle.std.proofs.Common.{◌≡◌, ◌+◌, ℕ, ap, sym}
use Rattle.schedules.specs.Recording.{Recording}
use Rattle.schedules.proofs.Recordings.{stops_at, stops_ended, takes_entry}
use Rattle.schedules.proofs.recorded.RecordedChooser.pick.Goals as goal

pub returns-in_default-place_of-clause-picked : goal.returns-in_default-place_of-clause-picked
returns-in_default-place_of-clause-picked c =
    stops_at c.args.self.now c.args.enabled.now c.stop-in_default-place_of.result _ (c.self.inside.next + 1) c.in-Some.entry
    c.stop-in_default-place_of.ensures.stops c.stop-in_default-place_of.ensures.after (ap (λ (r : Recording). r.taken + 1) c.self.view_is)
    (sym c.in-Some.ensures) c.in_default-place_of.ensures.none

pub returns-in_default-clause-picked : goal.returns-in_default-clause-picked
returns-in_default-clause-picked c =
    stops_ended c.args.self.now c.args.enabled.now c.stop.result _ c.stop.ensures.stops c.stop.ensures.after (sym c.in_default.ensures)

pub returns-clause-picked : goal.returns-clause-picked
returns-clause-picked c =
    takes_entry c.args.self.now c.args.enabled.now c.in-Some-place_of.place c.self.inside.entries.items c.self.inside.next
    c.self.inside.standing c.self.inside.stops c.in-Some.entry c.self.view_is (sym c.in-Some.ensures) c.in-Some-place_of.ensures.place
