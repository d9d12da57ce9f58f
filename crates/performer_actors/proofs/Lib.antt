pub mod ActorsCross
mod PenEvents
mod RobotEvents
mod RunsTold
mod Tellings
