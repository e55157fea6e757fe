use Rattle.std.proofs.Common.{Err, ap, arith}
use Rattle.campaign_inputs.proofs.HeardSo.{heard_fault, heard_no_memory, heard_too_long, heard_whole, limits_so}
use Rattle.campaign_inputs.proofs.input.read_input.Goals as goal

pub returns-in-Ok-clause-heard : goal.returns-in-Ok-clause-heard
returns-in-Ok-clause-heard g c =
    heard_whole c.site.result c.in-Ok.bytes.items _ _ c.in-Ok.ensures.whole c.in-Ok.ensures.ended
    (let ok = c.in-Ok.bytes.ok in let within = c.in-Ok.ensures.within in omega (arith, ok, within)) (rw c.deref.ensures.value at c.site.ensures.told)

pub returns-in-Ok-clause-limits : goal.returns-in-Ok-clause-limits
returns-in-Ok-clause-limits g c = limits_so c.site.result _ c.site.ensures.told

pub returns-in-Err-SourceFault-clause-heard : goal.returns-in-Err-SourceFault-clause-heard
returns-in-Err-SourceFault-clause-heard g c = heard_fault _ _ c.in-Err-SourceFault.ensures.front

pub returns-in-Err-TooLong-clause-heard : goal.returns-in-Err-TooLong-clause-heard
returns-in-Err-TooLong-clause-heard g c = heard_too_long _ _ (c.in-Err-TooLong.ensures.too_long (ap Err c.in-Err-TooLong.field-0-is))

pub returns-in-Err-NoMemory-clause-heard : goal.returns-in-Err-NoMemory-clause-heard
returns-in-Err-NoMemory-clause-heard g c = heard_no_memory _ _ c.in-Err-NoMemory.ensures.front
