use Rattle.std.proofs.Common.{rules, ap, ◌∙◌}
use Rattle.std.proofs.lemmas.Fn.{filter_same}
use Rattle.std.proofs.lemmas.List.Elements.{All-filter}
use Rattle.ifl_pcap.specs.Table.{frames_in, LiesIn}
use Rattle.ifl_pcap.proofs.Places.{is_kept, frames_in-filter}
use Rattle.ifl_pcap.proofs.capture.Capture.keep_lengths.Goals as goal

pub invariant_of-self : goal.invariant_of-self
invariant_of-self c =
    let kept = filter_same _ (is_kept c.args.least c.args.most) _ (λ x b f' k. search rules) _ _ c.retain.ensures.filtered in
    rw kept (All-filter (is_kept c.args.least c.args.most) (LiesIn c.self.inside.bytes.items) c.self.inside.places.items c.self.invariant)

pub returns : goal.returns
returns c =
    let kept = filter_same _ (is_kept c.args.least c.args.most) _ (λ x b f' k. search rules) _ _ c.retain.ensures.filtered in
    rw (← c.self.view_is) (ap (frames_in c.self.inside.form c.self.inside.bytes.items) kept ∙ frames_in-filter c.self.inside.form c.self.inside.bytes.items c.args.least c.args.most c.self.inside.places.items c.self.invariant)
