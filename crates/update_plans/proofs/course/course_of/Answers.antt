use Rattle.std.proofs.Common.{sym, ap, ◌∙◌}
use Rattle.update_log.specs.declared.event.Op.{Op}
use Rattle.update_plans.specs.declared.course.Course.{Course}
use Rattle.update_plans.specs.Courses.{course_step}
use Rattle.update_plans.proofs.Coursed.{course_is}
use Rattle.update_plans.proofs.course.course_of.Goals as goal

pub returns : goal.returns
returns c =
    let raw = c.args.raw in
    let two = c.take-2.ensures.value ∙ ap (λ (x : Course). course_step raw x Op.Detach) c.take.ensures.value in
    let three = c.take-3.ensures.value ∙ ap (λ (x : Course). course_step raw x Op.Write) two in
    let four = c.take-4.ensures.value ∙ ap (λ (x : Course). course_step raw x Op.Attach) three in
    let five = c.take-5.ensures.value ∙ ap (λ (x : Course). course_step raw x Op.Reload) four in
    c.take-6.ensures.value ∙ ap (λ (x : Course). course_step raw x Op.Cleanup) five ∙ sym (course_is raw c.args.first c.args.seen)
