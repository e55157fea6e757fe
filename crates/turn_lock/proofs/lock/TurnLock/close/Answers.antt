use Rattle.std.proofs.Common.{◌≡◌, ℕ, List, ap, sym, ◌∙◌, subst}
use mathlib.Core.Option.{some-injective}
use Rattle.turn_lock.specs.declared.boxed.Boxed.{Boxed}
use Rattle.turn_lock.specs.Shown.{LockView}
use Rattle.turn_lock.proofs.Ends.{IsClosed, ends}
use Rattle.turn_lock.proofs.Others.{some_is}
use Rattle.turn_lock.proofs.lock.TurnLock.close.Goals as goal

pub unreachable-requires : goal.unreachable-requires
unreachable-requires g c =
    let seats = c.self.invariant.1 ∙ ap (λ (l : LockView g.row.V-Entry.Denot). l.seats) c.self.view_is in
    let z = ends (λ (b : Boxed g.row.V.Denot). g.V.Chronicle.entries b.held.value) g.V.Chronicle.by _ _ _ _ c.args.passes.items _ _ c.gather-closer.ensures.closer c.gather-closer.ensures.accounts (c.requires.all ∙ sym seats) c.close_with-closed.ensures.values.2 in
    c.in_default.not-Some z.0 (some-injective _ _ (sym c.take.ensures.value ∙ z.1))

pub returns : goal.returns
returns g c =
    let e : Boxed g.row.V.Denot → List g.row.V-Entry.Denot = λ b. g.V.Chronicle.entries b.held.value in
    let E : Type 0 = g.row.V-Entry.Denot in
    let passes = c.args.passes.items in
    let seats = c.self.invariant.1 ∙ ap (λ (l : LockView E). l.seats) c.self.view_is in
    let start = ap (λ (l : LockView E). l.start) c.self.view_is in
    let z = ends e g.V.Chronicle.by _ _ _ _ passes _ _ c.gather-closer.ensures.closer c.gather-closer.ensures.accounts (c.requires.all ∙ sym seats) c.close_with-closed.ensures.values.2 in
    let same : z.0 ≡ c.in-Some.boxed = some_is _ _ (some-injective _ _ (sym z.1 ∙ c.in-Some.ensures.value)) in
    let P : ℕ → List E → Boxed g.row.V.Denot → Type 0 = λ n l x. IsClosed e g.V.Chronicle.by n l passes x in
    let closed : P c.args.self.seats c.args.self.start c.in-Some.boxed =
    subst (λ (n : ℕ). P n c.args.self.start c.in-Some.boxed) seats
    (subst (λ (l : List E). P c.self.inside.table.shared.key.seats l c.in-Some.boxed) start
    (subst (λ (x : Boxed g.row.V.Denot). P c.self.inside.table.shared.key.seats (e c.self.inside.table.shared.key.value.value) x) same z.2)) in
    rw c.into_value.ensures (record { begins = closed.begins; seen = closed.seen; mine = closed.mine; makers = closed.makers })
