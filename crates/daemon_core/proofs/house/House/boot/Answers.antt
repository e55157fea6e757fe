use Rattle.std.proofs.Common.{◌≡◌, true, false, refl, subst}
use Rattle.std.specs.Prelude.{Ok, vec_capacity}
use Rattle.history_keeper.specs.Signs.{signs_of}
use Rattle.update_log.specs.declared.event.Found.{Found}
use Rattle.daemon_core.specs.Housed.{Housed}
use Rattle.daemon_core.specs.Reading.{CanBoot, CanBootAfter, FirstRead, LaterRead}
use Rattle.daemon_core.specs.declared.reading.Loaded.{Loaded}
use Rattle.daemon_core.proofs.BootTurns.{ready-now, turn-fault, turn-no_room, turn-none, turn-others, turn-well, ungiven-over, ungiven-same}
use Rattle.daemon_core.proofs.house.House.boot.Goals as goal

pub returns-in_default : goal.returns-in_default
returns-in_default g c =
    let t = turn-no_room (signs_of g.K.Keeper.tells g.K.Keeper.doubt g.K.Keeper.faults) c.args.self.now c.make_room.new.self c.make_room.ensures.same c.make_room.ensures.elsewhere in
    record { turn = t.0; ungiven = ungiven-same g.K.Keeper.settled c.args.self.now.keeper c.make_room.new.self.keeper c.make_room.ensures.elsewhere.keeper; fared = t.1; counts = t.2 }

pub read-requires : goal.read-requires
read-requires g c = c.in-Ok.ensures.row_room

pub returns-in_default-read : goal.returns-in_default-read
returns-in_default-read g c =
    let t = turn-none (signs_of g.K.Keeper.tells g.K.Keeper.doubt g.K.Keeper.faults) g.K.Keeper.settled c.args.self.now c.make_room.new.self c.read.new.self c.read.new.self c.args.plan.now
    c.make_room.ensures.same c.make_room.ensures.elsewhere c.read.ensures.places c.read.ensures.pool c.read.ensures.counts c.read.ensures.was_read.told_before
    c.in_default-read.field-0 c.in_default-read.ensures.first c.in_default-read.ensures.later in
    record { turn = t.0; ungiven = ungiven-over g.K.Keeper.settled c.args.self.now.keeper c.make_room.new.self.keeper c.read.new.self.keeper c.read.new.self.keeper c.make_room.ensures.elsewhere.keeper refl c.read.ensures.was_read.ungiven; fared = t.1; counts = t.2 }

pub start_boards-requires : goal.start_boards-requires
start_boards-requires g c =
    let room : Housed g.row.K.Denot = c.make_room.new.self in
    let mid : Housed g.row.K.Denot = c.read.new.self in
    let first = λ (l : room.house_log.loaded ≡ false).
    subst (λ (x : Loaded). FirstRead (signs_of g.K.Keeper.tells g.K.Keeper.doubt g.K.Keeper.faults) (Ok x) room.house_log mid.house_log room.keeper mid.keeper) c.in-Found.is (c.in-Ok-read.ensures.first l) in
    let later : room.house_log.loaded ≡ true → (mid.house_log ≡ record room.house_log { reopened = true }) × LaterRead (signs_of g.K.Keeper.tells g.K.Keeper.doubt g.K.Keeper.faults) g.K.Keeper.settled (Ok (Loaded.Found c.in-Found.found)) room.house_log.core.rows room.house_log.core.doubt room.keeper mid.keeper = λ t.
    ((c.in-Ok-read.ensures.later t).0, subst (λ (x : Loaded). LaterRead (signs_of g.K.Keeper.tells g.K.Keeper.doubt g.K.Keeper.faults) g.K.Keeper.settled (Ok x) room.house_log.core.rows room.house_log.core.doubt room.keeper mid.keeper) c.in-Found.is (c.in-Ok-read.ensures.later t).1) in
    let can : CanBoot (signs_of g.K.Keeper.tells g.K.Keeper.doubt g.K.Keeper.faults) c.in-Found.found mid =
    subst (λ (x : Loaded). CanBootAfter (signs_of g.K.Keeper.tells g.K.Keeper.doubt g.K.Keeper.faults) (Ok x) mid) c.in-Found.is c.in-Ok-read.ensures.ready in
    ready-now (signs_of g.K.Keeper.tells g.K.Keeper.doubt g.K.Keeper.faults) g.K.Keeper.settled c.args.self.now room mid mid c.args.plan.now
    c.make_room.ensures.same c.make_room.ensures.elsewhere c.read.ensures.places c.read.ensures.pool c.read.ensures.counts c.read.ensures.was_read.told_before
    (Ok (Loaded.Found c.in-Found.found)) first later c.in-Found.found c.in-Ok.listed.items (vec_capacity c.in-Ok.listed)
    c.requires.holds c.requires.live can c.in-Ok.ensures.empty c.in-Ok.ensures.capacity c.in-Ok.ensures.room c.requires.few c.requires.timely

pub start_boards-requires-in-Fault : goal.start_boards-requires-in-Fault
start_boards-requires-in-Fault g c =
    let room : Housed g.row.K.Denot = c.make_room.new.self in
    let mid : Housed g.row.K.Denot = c.read.new.self in
    let first = λ (l : room.house_log.loaded ≡ false).
    subst (λ (x : Loaded). FirstRead (signs_of g.K.Keeper.tells g.K.Keeper.doubt g.K.Keeper.faults) (Ok x) room.house_log mid.house_log room.keeper mid.keeper) c.in-Fault.is (c.in-Ok-read.ensures.first l) in
    let later : room.house_log.loaded ≡ true → (mid.house_log ≡ record room.house_log { reopened = true }) × LaterRead (signs_of g.K.Keeper.tells g.K.Keeper.doubt g.K.Keeper.faults) g.K.Keeper.settled (Ok Loaded.Fault) room.house_log.core.rows room.house_log.core.doubt room.keeper mid.keeper = λ t.
    ((c.in-Ok-read.ensures.later t).0, subst (λ (x : Loaded). LaterRead (signs_of g.K.Keeper.tells g.K.Keeper.doubt g.K.Keeper.faults) g.K.Keeper.settled (Ok x) room.house_log.core.rows room.house_log.core.doubt room.keeper mid.keeper) c.in-Fault.is (c.in-Ok-read.ensures.later t).1) in
    let can : CanBoot (signs_of g.K.Keeper.tells g.K.Keeper.doubt g.K.Keeper.faults) Found.Fault mid =
    subst (λ (x : Loaded). CanBootAfter (signs_of g.K.Keeper.tells g.K.Keeper.doubt g.K.Keeper.faults) (Ok x) mid) c.in-Fault.is c.in-Ok-read.ensures.ready in
    ready-now (signs_of g.K.Keeper.tells g.K.Keeper.doubt g.K.Keeper.faults) g.K.Keeper.settled c.args.self.now room mid mid c.args.plan.now
    c.make_room.ensures.same c.make_room.ensures.elsewhere c.read.ensures.places c.read.ensures.pool c.read.ensures.counts c.read.ensures.was_read.told_before
    (Ok Loaded.Fault) first later Found.Fault c.in-Ok.listed.items (vec_capacity c.in-Ok.listed)
    c.requires.holds c.requires.live can c.in-Ok.ensures.empty c.in-Ok.ensures.capacity c.in-Ok.ensures.room c.requires.few c.requires.timely

pub returns-in-Found : goal.returns-in-Found
returns-in-Found g c =
    let room : Housed g.row.K.Denot = c.make_room.new.self in
    let mid : Housed g.row.K.Denot = c.read.new.self in
    let first = λ (l : room.house_log.loaded ≡ false).
    subst (λ (x : Loaded). FirstRead (signs_of g.K.Keeper.tells g.K.Keeper.doubt g.K.Keeper.faults) (Ok x) room.house_log mid.house_log room.keeper mid.keeper) c.in-Found.is (c.in-Ok-read.ensures.first l) in
    let later : room.house_log.loaded ≡ true → (mid.house_log ≡ record room.house_log { reopened = true }) × LaterRead (signs_of g.K.Keeper.tells g.K.Keeper.doubt g.K.Keeper.faults) g.K.Keeper.settled (Ok (Loaded.Found c.in-Found.found)) room.house_log.core.rows room.house_log.core.doubt room.keeper mid.keeper = λ t.
    ((c.in-Ok-read.ensures.later t).0, subst (λ (x : Loaded). LaterRead (signs_of g.K.Keeper.tells g.K.Keeper.doubt g.K.Keeper.faults) g.K.Keeper.settled (Ok x) room.house_log.core.rows room.house_log.core.doubt room.keeper mid.keeper) c.in-Found.is (c.in-Ok-read.ensures.later t).1) in
    let t = turn-well (signs_of g.K.Keeper.tells g.K.Keeper.doubt g.K.Keeper.faults) g.K.Keeper.settled c.args.self.now room mid c.start_boards.new.self c.args.plan.now
    c.make_room.ensures.same c.make_room.ensures.elsewhere c.read.ensures.places c.read.ensures.pool c.read.ensures.counts c.read.ensures.was_read.told_before
    c.in-Found.found first later c.start_boards.ensures.started c.start_boards.ensures.keeper c.start_boards.ensures.pool c.start_boards.ensures.rows in
    record { turn = t.0; ungiven = ungiven-over g.K.Keeper.settled c.args.self.now.keeper c.make_room.new.self.keeper c.read.new.self.keeper c.start_boards.new.self.keeper c.make_room.ensures.elsewhere.keeper c.start_boards.ensures.keeper c.read.ensures.was_read.ungiven; fared = t.1; counts = t.2 }

pub returns-in-Fault : goal.returns-in-Fault
returns-in-Fault g c =
    let room : Housed g.row.K.Denot = c.make_room.new.self in
    let mid : Housed g.row.K.Denot = c.read.new.self in
    let first = λ (l : room.house_log.loaded ≡ false).
    subst (λ (x : Loaded). FirstRead (signs_of g.K.Keeper.tells g.K.Keeper.doubt g.K.Keeper.faults) (Ok x) room.house_log mid.house_log room.keeper mid.keeper) c.in-Fault.is (c.in-Ok-read.ensures.first l) in
    let later : room.house_log.loaded ≡ true → (mid.house_log ≡ record room.house_log { reopened = true }) × LaterRead (signs_of g.K.Keeper.tells g.K.Keeper.doubt g.K.Keeper.faults) g.K.Keeper.settled (Ok Loaded.Fault) room.house_log.core.rows room.house_log.core.doubt room.keeper mid.keeper = λ t.
    ((c.in-Ok-read.ensures.later t).0, subst (λ (x : Loaded). LaterRead (signs_of g.K.Keeper.tells g.K.Keeper.doubt g.K.Keeper.faults) g.K.Keeper.settled (Ok x) room.house_log.core.rows room.house_log.core.doubt room.keeper mid.keeper) c.in-Fault.is (c.in-Ok-read.ensures.later t).1) in
    let t = turn-fault (signs_of g.K.Keeper.tells g.K.Keeper.doubt g.K.Keeper.faults) g.K.Keeper.settled c.args.self.now room mid c.start_boards-in-Fault.new.self c.args.plan.now
    c.make_room.ensures.same c.make_room.ensures.elsewhere c.read.ensures.places c.read.ensures.pool c.read.ensures.counts c.read.ensures.was_read.told_before
    first later c.start_boards-in-Fault.ensures.started c.start_boards-in-Fault.ensures.keeper c.start_boards-in-Fault.ensures.pool in
    record { turn = t.0; ungiven = ungiven-over g.K.Keeper.settled c.args.self.now.keeper c.make_room.new.self.keeper c.read.new.self.keeper c.start_boards-in-Fault.new.self.keeper c.make_room.ensures.elsewhere.keeper c.start_boards-in-Fault.ensures.keeper c.read.ensures.was_read.ungiven; fared = t.1; counts = t.2 }

pub returns-in-Bad : goal.returns-in-Bad
returns-in-Bad g c =
    let room : Housed g.row.K.Denot = c.make_room.new.self in
    let mid : Housed g.row.K.Denot = c.read.new.self in
    let first = λ (l : room.house_log.loaded ≡ false).
    subst (λ (x : Loaded). FirstRead (signs_of g.K.Keeper.tells g.K.Keeper.doubt g.K.Keeper.faults) (Ok x) room.house_log mid.house_log room.keeper mid.keeper) c.in-Bad.is (c.in-Ok-read.ensures.first l) in
    let later : room.house_log.loaded ≡ true → (mid.house_log ≡ record room.house_log { reopened = true }) × LaterRead (signs_of g.K.Keeper.tells g.K.Keeper.doubt g.K.Keeper.faults) g.K.Keeper.settled (Ok (Loaded.Bad c.in-Bad.entry)) room.house_log.core.rows room.house_log.core.doubt room.keeper mid.keeper = λ t.
    ((c.in-Ok-read.ensures.later t).0, subst (λ (x : Loaded). LaterRead (signs_of g.K.Keeper.tells g.K.Keeper.doubt g.K.Keeper.faults) g.K.Keeper.settled (Ok x) room.house_log.core.rows room.house_log.core.doubt room.keeper mid.keeper) c.in-Bad.is (c.in-Ok-read.ensures.later t).1) in
    let t = turn-others (signs_of g.K.Keeper.tells g.K.Keeper.doubt g.K.Keeper.faults) g.K.Keeper.settled c.args.self.now room mid mid c.args.plan.now
    c.make_room.ensures.same c.make_room.ensures.elsewhere c.read.ensures.places c.read.ensures.pool c.read.ensures.counts c.read.ensures.was_read.told_before
    c.in-Bad.entry first later in
    record { turn = t.0; ungiven = ungiven-over g.K.Keeper.settled c.args.self.now.keeper c.make_room.new.self.keeper c.read.new.self.keeper c.read.new.self.keeper c.make_room.ensures.elsewhere.keeper refl c.read.ensures.was_read.ungiven; fared = t.1; counts = t.2 }
