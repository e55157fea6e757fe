-- The examples: one fact an event.
use Rattle.std.proofs.Common.{◌≡◌, ℕ, zero, suc, true, false, List, [], ◌∷◌, refl, ap, sym, subst, inl, inr, arith, ◌<◌, ◌∙◌}
use Rattle.std.specs.Prelude.{Some, None, IsTrue, slice_get, codes, ◌==◌}
use Rattle.std.proofs.lemmas.Fmt.{decimal_digit}
use Rattle.version_formats.specs.declared.format.Format.{Format}
use Rattle.std.specs.List.{list_any}
use Rattle.std.proofs.lemmas.Bool.{eqb-true}
use Rattle.std.proofs.lemmas.Option.{same_Some}
use Rattle.fw_facts.specs.declared.seen.Seen.{Seen}
use Rattle.fw_facts.specs.declared.seen.Mode.{Mode}
use Rattle.emulated_boards.specs.declared.mark.Mark.{Mark}
use Rattle.history_keeper.specs.declared.row.Row.{Row}
use Rattle.history_keeper.specs.declared.row.RowState.{RowState}
use Rattle.version_formats.specs.Formats.{render}
use Rattle.version_formats.specs.VersionOrder.{sections, version_cmp}
use Rattle.requirements.specs.Requirements.{first_unmet}
use Rattle.release_catalogue.specs.Lookup.{chosen}
use Rattle.update_log.specs.declared.event.Event.{Event}
use Rattle.update_log.specs.declared.event.Op.{Op}
use Rattle.update_log.specs.declared.event.Back.{Back}
use Rattle.update_log.specs.declared.event.Stored.{Stored}
use Rattle.update_log.specs.declared.event.Found.{Found}
use Rattle.update_log.specs.declared.answer.AskAnswer.{AskAnswer}
use Rattle.update_log.specs.declared.answer.ClaimAnswer.{ClaimAnswer}
use Rattle.update_log.specs.declared.answer.ResumeAnswer.{ResumeAnswer}
use Rattle.update_log.specs.declared.decision.Stage.{Stage}
use Rattle.update_log.specs.declared.refusal.FetchNote.{FetchNote}
use Rattle.update_log.specs.declared.live.Held.{Held}
use Rattle.update_log.specs.Pasts.{boots, is_counted, is_boot, off, limit_of, counted}
use Rattle.update_log.specs.Known.{Basis, seen, target, views}
use Rattle.update_log.specs.Verdicts.{verdict}
use Rattle.update_log.specs.Steps.{judge}
use Rattle.update_log.specs.Shows.{EndShows, FreshShows, HasRaw, HasMode, home_before, is_began}
use Rattle.update_log.specs.Legal.{IsLegal, BootTakes, Allowed, ClaimAnswered, next_entry}
use Rattle.update_log.specs.Examples.{one_plan, two_plans, two_boards, plain_boot, ask, claim, request, start, ended, both_marks, old, new, torn, digest, other_digest, well, shows, judged, offline_request, row_request, no_device, InstallIsLegal, TornWriteIsLegal, OfflineInstallIsLegal, UnhashedIsNot, GoneOnIsNot, TrustedIsNot}

-- The versions that the board shows.
pub old-text : render Format.Triplet 0x01000000 ≡ codes "1.0.0"
unfolding render
old-text = rw (decimal_digit 1 (omega arith), decimal_digit 0 (omega arith)) refl

new-text : render Format.Triplet 0x01010000 ≡ codes "1.1.0"
unfolding render
new-text = rw (decimal_digit 1 (omega arith), decimal_digit 0 (omega arith)) refl

torn-text : render Format.Triplet 0 ≡ codes "0.0.0"
unfolding render
torn-text = rw (decimal_digit 0 (omega arith)) refl

-- What every event wants, in a boot without a limit, and below one.
takes-on : (past : List Event) (event : Event) → 0 < boots past → off past ≡ false → limit_of past ≡ None → BootTakes past event
takes-on past event b o l = record { booted = λ _. b; on = λ _. o; below = λ _. rw l tt }

takes-below : (past : List Event) (event : Event) (limit : ℕ) → 0 < boots past → off past ≡ false → limit_of past ≡ Some limit → counted past < limit → BootTakes past event
takes-below past event limit b o l c = record { booted = λ _. b; on = λ _. o; below = λ _. rw l c }

-- And what a boot wants, and what is given back or cut.
takes-uncounted : (past : List Event) (event : Event) → is_counted event ≡ false → (is_boot event ≡ false → 0 < boots past) → BootTakes past event
takes-uncounted past event u b =
    record {
      booted = b;
      on = λ c. let bad : true ≡ false = sym c ∙ u in cc;
      below = λ c. let bad : true ≡ false = sym c ∙ u in absurd (cc);
    }

-- A fact of the one element, or the two, of a list.
each-of-one : {X : Type 0} (Fact : ℕ → X → Type 0) (x : X) → Fact 0 x → (n : ℕ) (y : X) → slice_get (x ∷ []) n ≡ Some y → Fact n y
each-of-one Fact x f zero y e = subst (Fact 0) (same_Some x y e) f
each-of-one Fact x f (suc n) y e = cc

each-of-two : {X : Type 0} (Fact : ℕ → X → Type 0) (x y : X) → Fact 0 x → Fact 1 y → (n : ℕ) (z : X) → slice_get (x ∷ y ∷ []) n ≡ Some z → Fact n z
each-of-two Fact x y f g zero z e = subst (Fact 0) (same_Some x z e) f
each-of-two Fact x y f g (suc zero) z e = subst (Fact 1) (same_Some y z e) g
each-of-two Fact x y f g (suc (suc n)) z e = cc

pub same-raw : (raw other : ℕ) (mode other_mode : Mode) → Seen.Home raw mode ≡ Seen.Home other other_mode → raw ≡ other
same-raw raw other mode other_mode e = cc

pub same-mode : (raw other : ℕ) (mode other_mode : Mode) → Seen.Home raw mode ≡ Seen.Home other other_mode → mode ≡ other_mode
same-mode raw other mode other_mode e = cc

-- A board is shown as it was before, in runtime mode.
fresh-same : (basis : Basis) (first : List Seen) (past : List Event) (board : ℕ) (marks : List Mark) (raw : ℕ) → home_before basis first past board ≡ Seen.Home raw Mode.Runtime → FreshShows basis first past board marks (Seen.Home raw Mode.Runtime)
fresh-same basis first past board marks raw h =
    record {
      raw = λ r m e. inl (subst (λ s. HasRaw s r) (sym h) (same-raw raw r Mode.Runtime m e));
      mode = λ r e. cc;
    }

-- A board is gone.
pub fresh-gone : (basis : Basis) (first : List Seen) (past : List Event) (board : ℕ) (marks : List Mark) → FreshShows basis first past board marks Seen.Gone
fresh-gone basis first past board marks = record { raw = λ r m e. cc; mode = λ r e. cc }

-- A write of it began, and it shows a bad image.
fresh-torn : (basis : Basis) (first : List Seen) (past : List Event) (board : ℕ) (marks : List Mark) → list_any is_began marks ≡ true → FreshShows basis first past board marks torn
fresh-torn basis first past board marks b =
    record {
      raw = λ r m e. inr (inl (sym (same-raw 0 r Mode.Bootloader m e), rw b refl));
      mode = λ r e. sym (same-raw 0 r Mode.Bootloader Mode.Bootloader e);
    }

-- A step that made no mark and went well shows the board as it was.
end-same : (basis : Basis) (first : List Seen) (past : List Event) (board raw : ℕ) → home_before basis first past board ≡ Seen.Home raw Mode.Runtime → seen basis past board ≡ Seen.Home raw Mode.Runtime → EndShows basis first past board [] well (Seen.Home raw Mode.Runtime)
end-same basis first past board raw h s =
    record {
      stays = rw s refl;
      home = λ _. rw s refl;
      raw = λ r m e. inl (subst (λ x. HasRaw x r) (sym h) (same-raw raw r Mode.Runtime m e));
      mode = λ r m e. subst (λ x. HasMode x m) (sym h) (same-mode raw r Mode.Runtime m e);
    }

-- ---- a whole install

abbrev past1 : List Event
past1 = plain_boot ∷ []

boot-comes : IsLegal one_plan past1
boot-comes = (
  tt,
  takes-uncounted [] plain_boot refl (λ h. cc),
  (
    _,
    record {
      number_is = refl;
      planned = refl;
      time_is = refl;
      limit_is = refl;
      count = refl;
      listed = each-of-one _ (shows 0 old []) (record { number = refl; presence = refl; untold = tt; shown = fresh-same _ _ _ _ _ _ refl });
      found_is = tt;
    },
  ),
)

abbrev past2 : List Event
past2 = ask ∷ past1

ask-comes : IsLegal one_plan past2
unfolding chosen first_unmet version_cmp sections
ask-comes = (
  boot-comes,
  takes-on past1 ask (omega arith) refl refl,
  record { free = record { hold = refl; live = refl }; pending_is = tt; answer_is = rw old-text refl },
)

abbrev past3 : List Event
past3 = claim ∷ past2

claim-comes : IsLegal one_plan past3
unfolding chosen first_unmet version_cmp sections
claim-comes = (
  ask-comes,
  takes-on past2 claim (omega arith) refl refl,
  (_, record { held_is = refl; request_is = refl; pending = refl; answer_is = rw old-text (inl refl) }),
)

abbrev past4 : List Event
past4 = start Op.Prepare ∷ past3

prepare-starts : Allowed one_plan past3 (start Op.Prepare)
unfolding chosen first_unmet version_cmp sections
prepare-starts = (_, record { live = refl; client_is = refl; closed = refl; next = refl })

-- The board of an entry that is that of the first board.
on-board : (Fact : ℕ → Type 0) → Fact 0 → (board : ℕ) → IsTrue (0 == board) → Fact board
on-board Fact f board t = subst Fact (eqb-true 0 board t) f

abbrev past5 : List Event
past5 = ended Op.Prepare [] old ∷ past4

prepare-ends : Allowed one_plan past4 (ended Op.Prepare [] old)
unfolding chosen first_unmet version_cmp sections
prepare-ends =
    record {
      open_is = refl;
      told_is = tt;
      whole = tt;
      shows = on-board _ (end-same _ _ _ 0 _ refl refl);
    }

abbrev past6 : List Event
past6 = start Op.Write ∷ past5

write-starts : Allowed one_plan past5 (start Op.Write)
unfolding chosen first_unmet version_cmp sections
write-starts = (_, record { live = refl; client_is = refl; closed = refl; next = refl })

abbrev past7 : List Event
past7 = ended Op.Write both_marks new ∷ past6

new-shown : EndShows one_plan.basis one_plan.first past6 0 both_marks well new
unfolding chosen first_unmet version_cmp sections
new-shown =
    record {
      stays = refl;
      home = λ _. refl;
      raw = λ r m e. inr (inr (1, digest, (1, omega arith, refl), ap Some (same-raw _ r Mode.Runtime m e)));
      mode = λ r m e. inl (same-mode _ r Mode.Runtime m e);
    }

write-ends : Allowed one_plan past6 (ended Op.Write both_marks new)
unfolding chosen first_unmet version_cmp sections
write-ends =
    record {
      open_is = refl;
      told_is = (refl, (refl, tt));
      whole = refl;
      shows = on-board _ new-shown;
    }

abbrev past8 : List Event
past8 = start Op.Reload ∷ past7

reload-starts : Allowed one_plan past7 (start Op.Reload)
unfolding chosen first_unmet version_cmp sections
reload-starts = (_, record { live = refl; client_is = refl; closed = refl; next = refl })

abbrev past9 : List Event
past9 = ended Op.Reload [] new ∷ past8

reload-ends : Allowed one_plan past8 (ended Op.Reload [] new)
unfolding chosen first_unmet version_cmp sections
reload-ends =
    record { open_is = refl; told_is = tt; whole = tt; shows = on-board _ (end-same _ _ _ 0 _ refl refl) }

abbrev past10 : List Event
past10 = start Op.Cleanup ∷ past9

cleanup-starts : Allowed one_plan past9 (start Op.Cleanup)
unfolding chosen first_unmet version_cmp sections
cleanup-starts = (_, record { live = refl; client_is = refl; closed = refl; next = refl })

abbrev past11 : List Event
past11 = ended Op.Cleanup [] new ∷ past10

cleanup-ends : Allowed one_plan past10 (ended Op.Cleanup [] new)
unfolding chosen first_unmet version_cmp sections
cleanup-ends =
    record { open_is = refl; told_is = tt; whole = tt; shows = on-board _ (end-same _ _ _ 0 _ refl refl) }

abbrev finish : Event
finish = Event.Finish 1 1 RowState.Success Stored.Yes

finish-comes : Allowed one_plan past11 finish
unfolding chosen first_unmet version_cmp sections
finish-comes = (
  _,
  _,
  record {
    live = refl;
    client_is = refl;
    open_none = refl;
    done = refl;
    closing = refl;
    state_is = rw new-text refl;
    unchanged = rw new-text (λ e. cc);
  },
)

pub install-legal : InstallIsLegal
unfolding chosen first_unmet version_cmp sections
install-legal =
    let p4 : IsLegal one_plan past4 = (claim-comes, takes-on past3 (start Op.Prepare) (omega arith) refl refl, prepare-starts) in
    let p5 : IsLegal one_plan past5 = (p4, takes-on past4 (ended Op.Prepare [] old) (omega arith) refl refl, prepare-ends) in
    let p6 : IsLegal one_plan past6 = (p5, takes-on past5 (start Op.Write) (omega arith) refl refl, write-starts) in
    let p7 : IsLegal one_plan past7 = (p6, takes-on past6 (ended Op.Write both_marks new) (omega arith) refl refl, write-ends) in
    let p8 : IsLegal one_plan past8 = (p7, takes-on past7 (start Op.Reload) (omega arith) refl refl, reload-starts) in
    let p9 : IsLegal one_plan past9 = (p8, takes-on past8 (ended Op.Reload [] new) (omega arith) refl refl, reload-ends) in
    let p10 : IsLegal one_plan past10 = (p9, takes-on past9 (start Op.Cleanup) (omega arith) refl refl, cleanup-starts) in
    let p11 : IsLegal one_plan past11 = (p10, takes-on past10 (ended Op.Cleanup [] new) (omega arith) refl refl, cleanup-ends) in
    (p11, takes-on past11 finish (omega arith) refl refl, finish-comes)

-- ---- a torn write

abbrev cut_boot : Event
cut_boot = Event.Boot 1 1000 (Some 5) Found.Plain (shows 0 old [] ∷ [])

abbrev torn1 : List Event
torn1 = cut_boot ∷ []

abbrev torn3 : List Event
torn3 = claim ∷ ask ∷ torn1

abbrev torn5 : List Event
torn5 = ended Op.Prepare [] old ∷ start Op.Prepare ∷ torn3

abbrev torn6 : List Event
torn6 = start Op.Write ∷ torn5

abbrev torn8 : List Event
torn8 = Event.GiveBack 1 (Back.Entry 1) ∷ Event.Cut ∷ torn6

abbrev second_boot : Event
second_boot = Event.Boot 2 2000 None Found.Plain (shows 0 torn (Mark.Began 1 ∷ []) ∷ [])

abbrev torn9 : List Event
torn9 = second_boot ∷ torn8

cut_boot-comes : IsLegal two_plans torn1
cut_boot-comes = (
  tt,
  takes-uncounted [] cut_boot refl (λ h. cc),
  (
    _,
    record {
      number_is = refl;
      planned = refl;
      time_is = refl;
      limit_is = refl;
      count = refl;
      listed = each-of-one _ (shows 0 old []) (record { number = refl; presence = refl; untold = tt; shown = fresh-same _ _ _ _ _ _ refl });
      found_is = tt;
    },
  ),
)

torn-ask : Allowed two_plans torn1 ask
unfolding chosen first_unmet version_cmp sections
torn-ask = record { free = record { hold = refl; live = refl }; pending_is = tt; answer_is = rw old-text refl }

torn-claim : Allowed two_plans (ask ∷ torn1) claim
unfolding chosen first_unmet version_cmp sections
torn-claim = (_, record { held_is = refl; request_is = refl; pending = refl; answer_is = rw old-text (inl refl) })

torn-prepare : Allowed two_plans torn3 (start Op.Prepare)
unfolding chosen first_unmet version_cmp sections
torn-prepare = (_, record { live = refl; client_is = refl; closed = refl; next = refl })

torn-prepared : Allowed two_plans (start Op.Prepare ∷ torn3) (ended Op.Prepare [] old)
unfolding chosen first_unmet version_cmp sections
torn-prepared =
    record { open_is = refl; told_is = tt; whole = tt; shows = on-board _ (end-same _ _ _ 0 _ refl refl) }

torn-write : Allowed two_plans torn5 (start Op.Write)
unfolding chosen first_unmet version_cmp sections
torn-write = (_, record { live = refl; client_is = refl; closed = refl; next = refl })

torn-cut : Allowed two_plans torn6 Event.Cut
torn-cut = record { on = refl; full = refl }

torn-back : Allowed two_plans (Event.Cut ∷ torn6) (Event.GiveBack 1 (Back.Entry 1))
torn-back = (_, refl, refl, refl)

torn-boot : Allowed two_plans torn8 second_boot
unfolding chosen first_unmet version_cmp sections
torn-boot = (
  _,
  record {
    number_is = refl;
    planned = refl;
    time_is = refl;
    limit_is = refl;
    count = refl;
    listed = each-of-one _ (shows 0 torn (Mark.Began 1 ∷ [])) (record { number = refl; presence = refl; untold = (refl, tt); shown = fresh-torn _ _ _ _ _ refl });
    found_is = tt;
  },
)

pub cut_write-legal : IsLegal two_plans torn9
cut_write-legal =
    let below : (past : List Event) (event : Event) → 0 < boots past → off past ≡ false → limit_of past ≡ Some 5 → counted past < 5 → BootTakes past event =
    λ past event b o l c. takes-below past event 5 b o l c in
    let p2 : IsLegal two_plans (ask ∷ torn1) = (cut_boot-comes, below torn1 ask (omega arith) refl refl (omega arith), torn-ask) in
    let p3 : IsLegal two_plans torn3 = (p2, below (ask ∷ torn1) claim (omega arith) refl refl (omega arith), torn-claim) in
    let p4 : IsLegal two_plans (start Op.Prepare ∷ torn3) = (p3, below torn3 (start Op.Prepare) (omega arith) refl refl (omega arith), torn-prepare) in
    let p5 : IsLegal two_plans torn5 = (p4, below (start Op.Prepare ∷ torn3) (ended Op.Prepare [] old) (omega arith) refl refl (omega arith), torn-prepared) in
    let p6 : IsLegal two_plans torn6 = (p5, below torn5 (start Op.Write) (omega arith) refl refl (omega arith), torn-write) in
    let p7 : IsLegal two_plans (Event.Cut ∷ torn6) = (p6, takes-uncounted torn6 Event.Cut refl (λ _. omega arith), torn-cut) in
    let p8 : IsLegal two_plans torn8 = (p7, takes-uncounted (Event.Cut ∷ torn6) (Event.GiveBack 1 (Back.Entry 1)) refl (λ _. omega arith), torn-back) in
    (p8, takes-uncounted torn8 second_boot refl (λ h. cc), torn-boot)

judge-comes : Allowed two_plans torn9 (judged RowState.Failed)
unfolding chosen first_unmet version_cmp sections
judge-comes = (
  _,
  _,
  record {
    row_is = refl;
    waits = refl;
    device = refl;
    home = refl;
    version_is = ap Some torn-text;
    state_is = refl;
    stored_is = inl refl;
  },
)

pub torn-legal : TornWriteIsLegal
torn-legal = (cut_write-legal, takes-on torn9 (judged RowState.Failed) (omega arith) refl refl, judge-comes)

-- ---- an offline install, refused at the next boot

abbrev first_boot : Event
first_boot = Event.Boot 1 1000 None Found.Plain (shows 0 old [] ∷ shows 1 old [] ∷ [])

abbrev schedule : Event
schedule = Event.Schedule 1 offline_request (ClaimAnswer.Entry 1)

abbrev absent_boot : Event
absent_boot = Event.Boot 2 2000 None Found.Plain (shows 0 old [] ∷ shows 1 Seen.Gone [] ∷ [])

abbrev ask_row : Event
ask_row = Event.Ask 0 row_request (Some 1) (AskAnswer.Refused no_device)

abbrev resume : Event
resume = Event.Resume 0 1 None (ResumeAnswer.Refused no_device) Stored.Yes

abbrev off1 : List Event
off1 = first_boot ∷ []

abbrev off2 : List Event
off2 = schedule ∷ off1

abbrev off3 : List Event
off3 = absent_boot ∷ off2

abbrev off4 : List Event
off4 = ask_row ∷ off3

first_boot-comes : Allowed two_boards [] first_boot
first_boot-comes = (
  _,
  record {
    number_is = refl;
    planned = refl;
    time_is = refl;
    limit_is = refl;
    count = refl;
    listed = each-of-two _ (shows 0 old []) (shows 1 old [])
        (record { number = refl; presence = refl; untold = tt; shown = fresh-same _ _ _ _ _ _ refl })
        (record { number = refl; presence = refl; untold = tt; shown = fresh-same _ _ _ _ _ _ refl });
    found_is = tt;
  },
)

schedule-comes : Allowed two_boards off1 schedule
unfolding chosen first_unmet version_cmp sections
schedule-comes = record { free = record { hold = refl; live = refl }; answer_is = rw old-text (inl refl) }

absent_boot-comes : Allowed two_boards off2 absent_boot
absent_boot-comes = (
  _,
  record {
    number_is = refl;
    planned = refl;
    time_is = refl;
    limit_is = refl;
    count = refl;
    listed = each-of-two _ (shows 0 old []) (shows 1 Seen.Gone [])
        (record { number = refl; presence = refl; untold = tt; shown = fresh-same _ _ _ _ _ _ refl })
        (record { number = refl; presence = refl; untold = tt; shown = fresh-gone _ _ _ _ _ });
    found_is = tt;
  },
)

ask_row-comes : Allowed two_boards off3 ask_row
unfolding chosen first_unmet version_cmp sections
ask_row-comes =
    record {
      free = record { hold = refl; live = refl };
      pending_is = (_, record { client_is = refl; row_is = refl; pending = refl; request_is = refl });
      answer_is = rw old-text refl;
    }

resume-comes : Allowed two_boards off4 resume
unfolding chosen first_unmet version_cmp sections
resume-comes = (
  _,
  record {
    client_is = refl;
    row_is = refl;
    pending = refl;
    fetched_is = (_, refl, (refl, refl));
    stored_is = inl refl;
  },
)

pub offline-legal : OfflineInstallIsLegal
offline-legal =
    let p1 : IsLegal two_boards off1 = (tt, takes-uncounted [] first_boot refl (λ h. cc), first_boot-comes) in
    let p2 : IsLegal two_boards off2 = (p1, takes-on off1 schedule (omega arith) refl refl, schedule-comes) in
    let p3 : IsLegal two_boards off3 = (p2, takes-uncounted off2 absent_boot refl (λ h. cc), absent_boot-comes) in
    let p4 : IsLegal two_boards off4 = (p3, takes-on off3 ask_row (omega arith) refl refl, ask_row-comes) in
    (p4, takes-on off4 resume (omega arith) refl refl, resume-comes)

-- ---- logs that break one rule

-- The payload isn't the release's, so the claim must be refused.
pub unhashed-not : UnhashedIsNot
unfolding chosen first_unmet version_cmp sections
unhashed-not legal =
    let (held, a) = legal.2 in
    let same = same_Some _ held a.held_is in
    let answer = subst (λ (h : Held). ClaimAnswered (FetchNote.Whole other_digest 14 0x01010000) (target one_plan.basis.facts (views one_plan.basis past2) request) (next_entry one_plan.basis past2) (verdict one_plan.basis past2 1 request (Stage.Claim h.release)) (ClaimAnswer.Entry 1)) (sym same) a.answer_is in
    let computed : ClaimAnswer.Entry 1 ≡ ClaimAnswer.Refused _ = rw old-text at answer in cc

-- The entry isn't live after the restart, so none of its steps may start.
pub gone_on-not : GoneOnIsNot
gone_on-not legal = let (l, a) = legal.2 in let live = a.live in cc

-- The version shown isn't the row's, so the row has failed.
pub trusted-not : TrustedIsNot
unfolding chosen first_unmet version_cmp sections
trusted-not legal =
    let (row, view, a) = legal.2 in
    let same = same_Some _ row a.row_is in
    let state = subst (λ (r : Row). RowState.Success ≡ judge (codes "0.0.0") r) (sym same) a.state_is in cc
