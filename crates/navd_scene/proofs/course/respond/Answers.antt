use Rattle.std.proofs.Common.{Err, ap, ◌∙◌}
use Rattle.std.proofs.KnownBytes.{Keeps-refl}
use Rattle.top_call.proofs.TopLaws.{took_within, took_many, took_all}
use Rattle.navd_scene.proofs.Ends.{drawn_run, long_run, refused_run}
use Rattle.navd_scene.proofs.course.respond.Goals as goal

pub returns-in-Err-ReadFault-clause-run : goal.returns-in-Err-ReadFault-clause-run
returns-in-Err-ReadFault-clause-run g c = (c.read_all.ensures.fault (c.in-Err-ReadFault.is ∙ ap Err c.in-Err-ReadFault.field-0-is), Keeps-refl _)

pub returns-in-Err-TooLong-clause-run : goal.returns-in-Err-TooLong-clause-run
returns-in-Err-TooLong-clause-run g c =
    long_run _ _ _ _ _ _ _ _ _ (c.read_all.ensures.long (c.in-Err-TooLong.is ∙ ap Err c.in-Err-TooLong.field-0-is)) c.finish.ensures

pub returns-in-Scene-clause-run : goal.returns-in-Scene-clause-run
returns-in-Scene-clause-run g c =
    drawn_run _ _ _ _ _ _ _ _ _ _ _ _ _ c.in-Ok.ensures.ok c.in-Ok.ensures.short c.as_slice.ensures.value c.as_slice-in-Scene.ensures.value
    c.in-Scene.ensures.right c.finish-in-Scene.ensures

pub returns-in-Fault-clause-run : goal.returns-in-Fault-clause-run
returns-in-Fault-clause-run g c =
    refused_run _ _ _ _ _ _ _ _ _ _ _ _ _ c.in-Ok.ensures.ok c.in-Ok.ensures.short c.as_slice.ensures.value c.as_slice-in-Fault.ensures.value
    c.in-Fault.ensures.right c.in-Fault.ensures.complete c.finish-in-Fault.ensures

pub returns-in-Err-ReadFault-clause-took : goal.returns-in-Err-ReadFault-clause-took
returns-in-Err-ReadFault-clause-took g c =
    took_within _ _ (c.read_all.ensures.fault_within (c.in-Err-ReadFault.is ∙ ap Err c.in-Err-ReadFault.field-0-is))

pub returns-in-Err-TooLong-clause-took : goal.returns-in-Err-TooLong-clause-took
returns-in-Err-TooLong-clause-took g c = took_many _ _ (c.read_all.ensures.long (c.in-Err-TooLong.is ∙ ap Err c.in-Err-TooLong.field-0-is))

pub returns-in-Err-OutOfMemory-clause-took : goal.returns-in-Err-OutOfMemory-clause-took
returns-in-Err-OutOfMemory-clause-took g c =
    took_within _ _ (c.read_all.ensures.memory_within (c.in-Err-OutOfMemory.is ∙ ap Err c.in-Err-OutOfMemory.field-0-is))

pub returns-in-Scene-clause-took : goal.returns-in-Scene-clause-took
returns-in-Scene-clause-took g c = took_all _ _ _ c.in-Ok.ensures.ok c.in-Ok.ensures.short

pub returns-in-Fault-clause-took : goal.returns-in-Fault-clause-took
returns-in-Fault-clause-took g c = took_all _ _ _ c.in-Ok.ensures.ok c.in-Ok.ensures.short

pub returns-clause-took : goal.returns-clause-took
returns-clause-took g c = took_all _ _ _ c.in-Ok.ensures.ok c.in-Ok.ensures.short
