use Rattle.std.proofs.Common.{◌≡◌, ◌<◌, ◌+◌, ℕ, Bool, List, ap, sym, ◌∙◌, arith, length, length-set, subst}
use Rattle.std.proofs.Math.ListN.{set}
use Rattle.std.proofs.lemmas.List.{length_push}
use Rattle.std.proofs.lemmas.Option.{slice_get_within}
use Rattle.std.specs.Prelude.{Some, slice_get}
use Rattle.update_log.proofs.Targets.{at-index}
use Rattle.update_log.specs.declared.event.BoardSeen.{BoardSeen}
use Rattle.update_log.specs.Legal.{is_absent}
use Rattle.daemon_core.specs.Booting.{CanBeStarted, Started, StartedAt}
use Rattle.daemon_core.specs.Housed.{Place}
use Rattle.daemon_core.proofs.BootLoops.{rest-more, started-more}
use Rattle.daemon_core.proofs.starting.start_all.Goals as goal

pub start-seen-requires : goal.start-seen-requires
start-seen-requires c =
    let within : c.loop-place.place-index < length c.loop-place.places = omega arith in
    subst CanBeStarted c.place-item.is
    (c.requires.each c.loop-place.place-index c.place-item.result
    (sym (c.loop-place.invariant.rest c.loop-place.place-index (omega arith)) ∙ at-index c.loop-place.places c.loop-place.place-index c.place-item.result within c.place-item.is))

pub loop-place-preserved : goal.loop-place-preserved
loop-place-preserved c =
    let i : ℕ = c.loop-place.place-index in
    let within : i < length c.loop-place.places = omega arith in
    let count = c.loop-place.invariant.count in
    let items = c.push_reserved.ensures.items in
    let is : slice_get c.args.places.now i ≡ Some c.place-item.result =
    sym (c.loop-place.invariant.rest i (omega arith)) ∙ at-index c.loop-place.places i c.place-item.result within c.place-item.is in
    let number : c.len-number.result ≡ i = omega arith in
    let absent : c.is_absent.result ≡ is_absent c.args.plan.now i = c.is_absent.ensures ∙ ap (is_absent c.args.plan.now) number in
    let started : Started (is_absent c.args.plan.now i) i c.place-item.result c.start-seen.new.place c.start-seen.result =
    subst (λ (n : ℕ). Started (is_absent c.args.plan.now i) n c.place-item.result c.start-seen.new.place c.start-seen.result) number
    (subst (λ (b : Bool). Started b c.len-number.result c.place-item.result c.start-seen.new.place c.start-seen.result) absent
    (subst (λ (p : Place). Started c.is_absent.result c.len-number.result p c.start-seen.new.place c.start-seen.result) (sym c.place-item.is) c.start-seen.ensures)) in
    record {
      count = ap length items ∙ length_push c.loop-place.listed.items c.start-seen.result ∙ ap (λ n. n + 1) count;
      room = (let l = length-set c.loop-place.places i c.start-seen.new.place in let r = c.loop-place.invariant.room in let p = c.push_reserved.ensures.capacity in omega (arith, l, r, p));
      done = λ n q l e.
          subst (λ (x : List BoardSeen). StartedAt c.args.plan.now n q (set c.loop-place.places i c.start-seen.new.place) x) (sym items)
          (started-more c.args.plan.now c.args.places.now c.loop-place.places c.loop-place.listed.items i c.place-item.result c.start-seen.new.place c.start-seen.result count within is started
          c.loop-place.invariant.done n q l e);
      rest = rest-more c.args.places.now c.loop-place.places i c.start-seen.new.place c.loop-place.invariant.rest;
    }

pub returns : goal.returns
returns c =
    let count = c.loop-place.invariant.count in
    let past = c.loop-place-test.false in
    let places = c.loop-place.auto.places in
    let most = c.loop-place.auto.place-index-end in
    record {
      places = places;
      count = omega (arith, count, past, places, most);
      each = λ n q e. let w = slice_get_within c.args.places.now n q e in c.loop-place.invariant.done n q (omega (arith, w, past)) e;
    }
