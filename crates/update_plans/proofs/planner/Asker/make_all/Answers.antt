use Rattle.std.proofs.Common.{refl, arith}
use Rattle.update_plans.proofs.planner.Asker.make_all.Goals as goal

pub make-requires : goal.make-requires
make-requires g c = (c.requires.0, (refl, (c.requires.1.0, (c.requires.1.1.0, (omega (arith, c.requires.1.1.1))))))

pub make-requires-2 : goal.make-requires-2
make-requires-2 g c = (c.make.ensures.put, (refl, (c.requires.1.0, (c.requires.1.1.0, (omega (arith, c.requires.1.1.1, c.make.ensures.room))))))

pub make-requires-3 : goal.make-requires-3
make-requires-3 g c = (c.make-2.ensures.put, (refl, (c.requires.1.0, (c.requires.1.1.0, (omega (arith, c.requires.1.1.1, c.make.ensures.room, c.make-2.ensures.room))))))

pub make-requires-4 : goal.make-requires-4
make-requires-4 g c = (c.make-3.ensures.put, (refl, (c.requires.1.0, (c.requires.1.1.0, (omega (arith, c.requires.1.1.1, c.make.ensures.room, c.make-2.ensures.room, c.make-3.ensures.room))))))

pub make-requires-5 : goal.make-requires-5
make-requires-5 g c = (c.make-4.ensures.put, (refl, (c.requires.1.0, (c.requires.1.1.0, (omega (arith, c.requires.1.1.1, c.make.ensures.room, c.make-2.ensures.room, c.make-3.ensures.room, c.make-4.ensures.room))))))

pub make-requires-6 : goal.make-requires-6
make-requires-6 g c = (c.make-5.ensures.put, (refl, (c.requires.1.0, (c.requires.1.1.0, (omega (arith, c.requires.1.1.1, c.make.ensures.room, c.make-2.ensures.room, c.make-3.ensures.room, c.make-4.ensures.room, c.make-5.ensures.room))))))

pub returns-clause-put : goal.returns-clause-put
returns-clause-put g c = c.make-6.ensures.put

pub returns-clause-room : goal.returns-clause-room
returns-clause-room g c = omega (arith, c.make.ensures.room, c.make-2.ensures.room, c.make-3.ensures.room, c.make-4.ensures.room, c.make-5.ensures.room, c.make-6.ensures.room)
