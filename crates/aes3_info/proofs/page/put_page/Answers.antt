use Rattle.std.proofs.Common.{◌++◌, ◌+◌, ◌∙◌, ap, append_assoc}
use Rattle.std.proofs.lemmas.Result.{err_from_is_err_and}
use Rattle.aes3_cell.proofs.Growing.{front-is, front-join, front-more, grew-is, grew-join}
use Rattle.aes3_cell.proofs.Writing.{wrote-behind, wrote-is}
use Rattle.aes3_frame.specs.declared.block.Channel.TheVariants.{First, Second}
use Rattle.aes3_info.specs.Pages.{channel_fields, closing, head}
use Rattle.aes3_info.proofs.Inspecting.{four-parts, page-is}
use Rattle.aes3_info.proofs.page.put_page.Goals as goal

pub returns-in_err-put_channel : goal.returns-in_err-put_channel
returns-in_err-put_channel g c =
    let f = c.args.facts.now in
    let a = channel_fields c.args.notation First f.reports.whole f.first in
    let b = channel_fields c.args.notation Second f.reports.whole f.second in
    let h = grew-is (c.as_bytes.ensures ∙ c.head_of.ensures.text) c.in_ok-write_all.ensures.grew in
    let p = err_from_is_err_and c.from_residual-in_err-put_channel.result
    c.from_residual-in_err-put_channel.ensures.1 in
    let e = c.in_err-put_channel.ensures.err in
    rw p.1 (record {
      grew = tt;
      no_failure = tt;
      err = (
        e.0 ∙ ap (λ n. n + 1) c.in_ok-write_all.ensures.no_failure,
        front-is (append_assoc (head c.args.notation f) a (b ++ closing c.args.notation) ∙ page-is c.args.notation f)
            (front-more (front-join h e.1) (b ++ closing c.args.notation)),
      );
    })

pub returns-in_err-put_channel-2 : goal.returns-in_err-put_channel-2
returns-in_err-put_channel-2 g c =
    let f = c.args.facts.now in
    let a = channel_fields c.args.notation First f.reports.whole f.first in
    let b = channel_fields c.args.notation Second f.reports.whole f.second in
    let h = grew-is (c.as_bytes.ensures ∙ c.head_of.ensures.text) c.in_ok-write_all.ensures.grew in
    let p = err_from_is_err_and c.from_residual-in_err-put_channel-2.result
    c.from_residual-in_err-put_channel-2.ensures.1 in
    let e = c.in_err-put_channel-2.ensures.err in
    rw p.1 (record {
      grew = tt;
      no_failure = tt;
      err = (
        e.0 ∙ ap (λ n. n + 1) (c.in_ok-put_channel.ensures.no_failure ∙ c.in_ok-write_all.ensures.no_failure),
        front-is (four-parts (head c.args.notation f) a b (closing c.args.notation) ∙ page-is c.args.notation f)
            (front-more (front-join (grew-join h c.in_ok-put_channel.ensures.grew) e.1) (closing c.args.notation)),
      );
    })

pub returns : goal.returns
returns g c =
    let f = c.args.facts.now in
    let a = channel_fields c.args.notation First f.reports.whole f.first in
    let b = channel_fields c.args.notation Second f.reports.whole f.second in
    let h = grew-is (c.as_bytes.ensures ∙ c.head_of.ensures.text) c.in_ok-write_all.ensures.grew in
    wrote-is (four-parts (head c.args.notation f) a b (closing c.args.notation) ∙ page-is c.args.notation f)
    (wrote-behind c.write_all-2.result
    (c.in_ok-put_channel-2.ensures.no_failure ∙ c.in_ok-put_channel.ensures.no_failure ∙ c.in_ok-write_all.ensures.no_failure)
    (grew-join (grew-join h c.in_ok-put_channel.ensures.grew) c.in_ok-put_channel-2.ensures.grew)
    (wrote-is (c.as_bytes-2.ensures.value ∙ c.closing.ensures.text) c.write_all-2.ensures))
