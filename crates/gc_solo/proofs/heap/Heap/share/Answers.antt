use Rattle.std.proofs.Common.{refl}
use Rattle.gc_model.specs.World.{named_by}
use Rattle.gc_solo.specs.Kept.{kept_of}
use Rattle.gc_solo.proofs.PutNames.{put-common}
use Rattle.gc_solo.proofs.heap.Heap.share.Goals as goal

pub returns-clause-answered : goal.returns-clause-answered
returns-clause-answered c placement world ready =
    let put = put-common (kept_of c.args.self.now) placement world c.args.t c.args.place c.args.value c.page_start-object.result
    c.common_slot-address.result c.register-name.result ready (c.common_slot-address.ensures placement world ready)
    c.page_start-object.ensures c.register-name.ensures in
    record {
      reply_is = refl;
      placement = placement;
      shown = c.put_name.ensures.put placement world 0 c.args.place (named_by world c.args.t c.args.value) ready put;
    }
