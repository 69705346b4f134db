use Rattle.std.proofs.Common.{◌≡◌, ℕ, List, ◌++◌, max, true, not, string_bytes, ap, ◌∙◌}
use Rattle.std.specs.Result.{is_ok}
use Rattle.pilot_basic.specs.declared.words.BasicOrder.{BasicOrder}
use Rattle.file_commands.specs.Scripts.{order_lines}
use Rattle.file_commands.proofs.Running.{on_ok, running_more}
use Rattle.file_commands.proofs.script.run.Goals as goal

pub loop-rest-preserved : goal.loop-rest-preserved
loop-rest-preserved c =
    let past = c.loop-rest.invariant.0 in
    let so_far = c.loop-rest.invariant.1 in
    let ok : is_ok c.add_orders.result ≡ true = c.is_err.ensures.negation ∙ ap not c.if-is_err.false in
    let Added : Type 0 = string_bytes c.add_orders.new.text ≡ string_bytes c.loop-rest.printed ++ order_lines c.max-now.result c.as_slice.result.now in
    let added : Added = on_ok c.add_orders.result Added ok c.add_orders.ensures in
    let told : string_bytes c.add_orders.new.text ≡ string_bytes c.loop-rest.printed ++ order_lines c.max-now.result c.step-orders.result.items =
    added ∙ ap (λ (o : List BasicOrder). string_bytes c.loop-rest.printed ++ order_lines c.max-now.result o) c.as_slice.ensures.value in
    running_more past c.args.script.now c.loop-rest.basic c.step-orders.new.self c.loop-rest.now c.max-now.result c.loop-rest.number (string_bytes c.loop-rest.printed)
    (string_bytes c.add_orders.new.text) c.loop-rest.rest.now c.in-Ok.more.now c.in-Ok.line c.step-orders.result.items so_far (record {
      is_line = c.in-Ok.ensures.0;
      read = c.in-Ok.ensures.1;
      leads = c.step-orders.ensures.orders past so_far.state;
      state = c.step-orders.ensures.state past so_far.state;
      now_is = c.max-now.ensures ∙ ap (λ (n : ℕ). max n c.in-Ok.line.at) so_far.now_is;
      printed_is = told;
    })
