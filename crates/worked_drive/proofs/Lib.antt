mod Opening
mod Ready
