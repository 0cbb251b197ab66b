use Rattle.std.proofs.Common.{◌∙◌, ◌*◌, ◌/◌, ◌<◌, ap, subst, sym, arith}
use Rattle.gc_layout.specs.Places.{Layout, IsWithinLimits, region_words, word_count}
use Rattle.gc_layout.proofs.ReciprocalLemmas.{regions-below, regions-by-reciprocal}
use Rattle.gc_layout.proofs.places.Places.regions_before.Goals as goal

pub returns-clause-regions : goal.returns-clause-regions
returns-clause-regions c =
    let layout : Layout = record { mutators = c.self.inside.mutators; nursery = c.self.inside.nursery; pages = c.self.inside.pages } in
    let inside : c.args.before < word_count layout =
    subst (λ (each : Layout). c.args.before < word_count each) (sym c.self.view_is) c.requires in
    ap (λ reciprocal. c.args.before * reciprocal / 4398046511104) c.self.invariant.1
    ∙ regions-by-reciprocal layout c.args.before c.self.invariant.0 inside
    ∙ ap (λ (each : Layout). c.args.before / region_words each) c.self.view_is

pub returns-clause-owner : goal.returns-clause-owner
returns-clause-owner c =
    rw (returns-clause-regions c) (regions-below c.args.self.now c.args.before c.requires)

pub overflow_cast-result : goal.overflow_cast-result
overflow_cast-result c =
    let limits : IsWithinLimits c.args.self.now = subst IsWithinLimits c.self.view_is c.self.invariant.0 in
    let owner : c.args.before / region_words c.args.self.now < c.args.self.now.mutators =
    regions-below c.args.self.now c.args.before c.requires in
    rw (returns-clause-regions c) (omega arith)
