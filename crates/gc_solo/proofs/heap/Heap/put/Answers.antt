use Rattle.std.proofs.Common.{refl}
use Rattle.gc_model.specs.World.{named_by}
use Rattle.gc_solo.specs.Kept.{kept_of}
use Rattle.gc_solo.proofs.Answered.{answered-same}
use Rattle.gc_solo.proofs.PutNames.{put-slot}
use Rattle.gc_solo.proofs.heap.Heap.put.Goals as goal

pub put_name-requires : goal.put_name-requires
put_name-requires c =
    let some = c.requires.ready in
    let found = c.in-Ok.ensures.address some.placement some.world some.ready in
    let put = put-slot (kept_of c.args.self.now) some.placement some.world c.args.t c.args.base c.args.place c.args.value
    c.register-object.result c.in-Ok.address c.register-name.result some.ready found c.register-object.ensures c.register-name.ensures in
    record {
      ready = (some.placement, some.world, found.object, c.args.place, named_by some.world c.args.t c.args.value, some.ready, put);
    }

pub returns-in-Ok-clause-answered : goal.returns-in-Ok-clause-answered
returns-in-Ok-clause-answered c placement world ready =
    let found = c.in-Ok.ensures.address placement world ready in
    let put = put-slot (kept_of c.args.self.now) placement world c.args.t c.args.base c.args.place c.args.value
    c.register-object.result c.in-Ok.address c.register-name.result ready found c.register-object.ensures c.register-name.ensures in
    rw found.owner (record {
      reply_is = refl;
      placement = placement;
      shown = c.put_name.ensures.put placement world found.object c.args.place (named_by world c.args.t c.args.value) ready put;
    })

pub returns-in-Err-clause-answered : goal.returns-in-Err-clause-answered
returns-in-Err-clause-answered c placement world ready =
    rw (c.in-Err.ensures.refused placement world ready) (answered-same (kept_of c.args.self.now) placement world _ ready.shows)
