use Rattle.std.proofs.Common.{[], None, ap, inl, inr, refl, ◌∙◌}
use Rattle.std.specs.Io.Buffered.{reader_remaining}
use Rattle.mmc_block.specs.Device.{DeviceView}
use Rattle.nbd_server.specs.declared.fault.SessionFault.TheVariants.{Input, Output}
use Rattle.nbd_server.proofs.SessionLemmas.{agreed_of, passed_on}
use Rattle.nbd_server.proofs.session.serve.Goals as goal

pub returns-in_err-export : goal.returns-in_err-export
returns-in_err-export g c = inl refl

pub returns-in_default : goal.returns-in_default
returns-in_default g c = inl refl

pub returns-in_err-serve_export : goal.returns-in_err-serve_export
returns-in_err-serve_export g c =
    let (acts, does, taken) = c.in_err-serve_export.ensures in
    let failed = c.from_residual-in_err-serve_export.ensures in
    let is = passed_on c.from_residual-in_err-serve_export.result (Output c.in_err-serve_export.field-0.0) failed.0 failed.1 in
    rw is (inr (record {
      export = c.in-Some.export;
      begins = reader_remaining g.R.Read.remaining c.negotiate.new.input;
      begun = g.W.Write.contents c.negotiate.new.out;
      left = None;
      acts = acts;
      served = [];
      agreed = agreed_of _ _ _ (c.info.ensures.lasting ∙ ap (λ (d : DeviceView _). d.info) c.device.ensures) (rw c.in-Some.is at c.in_ok-export.ensures.export);
      negotiated = (c.in_ok-export.ensures.read, c.in_ok-export.ensures.written);
      does = does;
      requests = tt;
      answered = tt;
      ends = tt;
    }))

pub returns-in_err-branch : goal.returns-in_err-branch
returns-in_err-branch g c =
    let (acts, does, (none, (left, served, taken, ends))) = c.in_ok-serve_export.ensures in
    let failed = c.from_residual-in_err-branch.ensures in
    let is = passed_on c.from_residual-in_err-branch.result (Input c.in_err-branch.field-0.0) failed.0 failed.1 in
    rw is (inr (record {
      export = c.in-Some.export;
      begins = reader_remaining g.R.Read.remaining c.negotiate.new.input;
      begun = g.W.Write.contents c.negotiate.new.out;
      left = left;
      acts = acts;
      served = served;
      agreed = agreed_of _ _ _ (c.info.ensures.lasting ∙ ap (λ (d : DeviceView _). d.info) c.device.ensures) (rw c.in-Some.is at c.in_ok-export.ensures.export);
      negotiated = (c.in_ok-export.ensures.read, c.in_ok-export.ensures.written);
      does = does;
      requests = taken;
      answered = none;
      ends = rw c.in_err-branch.was at ends;
    }))

pub returns : goal.returns
returns g c =
    let (acts, does, (none, (left, served, taken, ends))) = c.in_ok-serve_export.ensures in
    inr (record {
      export = c.in-Some.export;
      begins = _;
      begun = _;
      left = left;
      acts = acts;
      served = served;
      agreed = agreed_of _ _ _ (c.info.ensures.lasting ∙ ap (λ (d : DeviceView _). d.info) c.device.ensures) (rw c.in-Some.is at c.in_ok-export.ensures.export);
      negotiated = (c.in_ok-export.ensures.read, c.in_ok-export.ensures.written);
      does = does;
      requests = taken;
      answered = none;
      ends = rw c.in_ok-branch.was at ends;
    })
