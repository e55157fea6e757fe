use Rattle.std.proofs.Common.{inl, inr}
use Rattle.version_formats.specs.Formats.{render}
use Rattle.version_formats.proofs.rendering.render.Goals as goal

pub returns-in-Plain : goal.returns-in-Plain
unfolding render
returns-in-Plain c = elim c.in-Plain.is [ inl plain ↦ rw plain c.dotted.ensures | inr number ↦ rw number c.dotted.ensures ]

pub returns-in-Pair : goal.returns-in-Pair
unfolding render
returns-in-Pair c = rw c.in-Pair.is cc

pub returns-in-Triplet : goal.returns-in-Triplet
unfolding render
returns-in-Triplet c = rw c.in-Triplet.is cc

pub returns-in-Quad : goal.returns-in-Quad
unfolding render
returns-in-Quad c = rw c.in-Quad.is cc

pub returns-in-Bcd : goal.returns-in-Bcd
unfolding render
returns-in-Bcd c = rw c.in-Bcd.is cc

pub returns-in-DellBios : goal.returns-in-DellBios
unfolding render
returns-in-DellBios c = rw c.in-DellBios.is cc

pub returns-in-DellBiosMsb : goal.returns-in-DellBiosMsb
unfolding render
returns-in-DellBiosMsb c = rw c.in-DellBiosMsb.is cc

pub returns-in-SurfaceLegacy : goal.returns-in-SurfaceLegacy
unfolding render
returns-in-SurfaceLegacy c = rw c.in-SurfaceLegacy.is cc

pub returns-in-Surface : goal.returns-in-Surface
unfolding render
returns-in-Surface c = rw c.in-Surface.is cc

pub returns-in-IntelMe : goal.returns-in-IntelMe
unfolding render
returns-in-IntelMe c = rw c.in-IntelMe.is cc

pub returns-in-IntelMe2 : goal.returns-in-IntelMe2
unfolding render
returns-in-IntelMe2 c = rw c.in-IntelMe2.is cc
