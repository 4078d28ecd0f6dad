mod Drawing
mod Loading
